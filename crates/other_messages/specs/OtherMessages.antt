-- What a note-off, a controller and a program change do to the sound module. R6.14: no mask is asked.
use Rattle.std.specs.Prelude.{ℕ, Bool, ◌&&◌, not, eqb, if◌then◌else◌}
use Rattle.loops.specs.Cases.{differ}
use Rattle.channels.specs.Channel.{with_program, rhythm_by}
use Rattle.controllers.specs.Controllers.{controlled, lifts_pedal, silences_all, ends_all}
use Rattle.generators.specs.declared.Generators.{Generators}
use Rattle.releases.specs.declared.Change.TheVariants.{ReleaseChannel, NoteOff, AllNotesOff, PedalUp}
use Rattle.releases.specs.Releases.{changed}
use Rattle.silence.specs.declared.Leaving.TheVariants.{Channel}
use Rattle.silence.specs.Silence.{silenced}
use Rattle.instrument.specs.declared.Instrument.{Instrument}
use Rattle.instrument.specs.Instrument.{channel_of, with_channel, with_kind, with_generators, pedal_down, is_rhythm}

-- R6.2: a note-off; R6.4: of a drum
unfoldable pub play_note_off : Instrument → ℕ → ℕ → Instrument
play_note_off i c k =
    if is_rhythm i c then i else with_generators i (changed (NoteOff (pedal_down i c) c k) i.generators)

-- R6.7, R6.10, R6.11, R6.12: what becomes of the notes by a controller that lifts the pedal, silences or ends them
unfoldable pub notes_after : Bool → ℕ → ℕ → ℕ → Generators → Generators
notes_after pedal c n v s =
    if lifts_pedal n v then changed (PedalUp c) s else
    if silences_all n v then silenced (Channel c) s else
    if ends_all n v then changed (AllNotesOff pedal c) s else
    s

-- R6.14: a controller, of any channel: its numbers and its notes; R6.12: on a rhythm channel all notes off releases,
-- whatever the pedal
unfoldable pub play_control : Instrument → ℕ → ℕ → ℕ → Instrument
play_control i c n v =
    with_generators (with_channel i c (controlled (channel_of i c) n v))
    (notes_after (pedal_down i c && not (is_rhythm i c)) c n v i.generators)

-- R6.16: the kind of channel 11, and where it is another one its busy generators release
unfoldable pub kind_set : Instrument → Bool → Instrument
kind_set i rhythm =
    if differ rhythm (is_rhythm i 11)
    then with_generators (with_kind i rhythm) (changed (ReleaseChannel 11) i.generators)
    else i

-- R6.5: a program change stores the program; R6.15: on channel 11 it sets the kind by the bank
unfoldable pub play_program : Instrument → ℕ → ℕ → Instrument
play_program i c n =
    if eqb c 11
    then
    kind_set (with_channel i c (with_program (channel_of i c) n))
    (rhythm_by (channel_of i c).bank_msb (is_rhythm i 11))
    else with_channel i c (with_program (channel_of i c) n)

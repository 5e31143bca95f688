-- What releases or sustains notes. Only states change, and no generator becomes idle.
use Rattle.std.specs.Prelude.{ℕ, Bool, ◌&&◌, List, eqb, if◌then◌else◌}
use Rattle.loops.specs.Passes.{up_to}
use Rattle.generators.specs.declared.Generators.{Generators}
use Rattle.generators.specs.Generators.{Generator, at, sustained, releasing, is_held, is_sustained, is_on, is_busy_on}
use Rattle.releases.specs.declared.Change.{Change}
use Rattle.releases.specs.declared.Change.TheVariants.{ReleaseNote, ReleaseChannel}
use Rattle.releases.specs.declared.Change.TheVariants.{NoteOff, AllNotesOff, PedalUp}

-- which generators a change means: R5.2, a new note of their key; R6.16, their channel becomes one of another kind;
-- R6.2, their note-off; R6.12, all note-offs of their channel; R6.7, the pedal comes up
unfoldable pub changes : Change → Generator → Bool
changes (ReleaseNote c k) x = is_busy_on c x && eqb x.key k
changes (ReleaseChannel c) x = is_busy_on c x
changes (NoteOff pedal c k) x = is_held x && is_on c x && eqb x.key k
changes (AllNotesOff pedal c) x = is_held x && is_on c x
changes (PedalUp c) x = is_sustained x && is_on c x

-- R6.2: the state after a key came up
abbrev pub key_up : Bool → ℕ
key_up pedal = if pedal then sustained else releasing

-- the state that those generators go to
unfoldable pub state_after : Change → ℕ
state_after (ReleaseNote c k) = releasing
state_after (ReleaseChannel c) = releasing
state_after (NoteOff pedal c k) = key_up pedal
state_after (AllNotesOff pedal c) = key_up pedal
state_after (PedalUp c) = releasing

abbrev pub with_states : Generators → List ℕ → Generators
with_states s l = record { state = l; channel = s.channel; key = s.key; ages = s.ages }

unfoldable pub changed : Change → Generators → Generators
changed h s = with_states s (up_to (λ g. if changes h (at s g) then state_after h else (at s g).state) 64)

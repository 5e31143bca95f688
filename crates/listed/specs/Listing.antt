-- What an input lists, byte by byte (section 16 of docs/RULES.md).
use Rattle.std.specs.Prelude.{ℕ, ◌+◌, ◌≡◌, Bool, true, false, List, [], ◌∷◌, ◌++◌, ltb, if◌then◌else◌, Some, None}
use Rattle.text.specs.Text.{Put}
use Rattle.lines.specs.Lines.{line_of}
use Rattle.refusals.specs.declared.Refusal.{Refusal}
use Rattle.playing.specs.declared.Answer.{Answer}
use Rattle.playing.specs.declared.Answer.TheVariants as answer
use Rattle.device.specs.declared.Output.{Output}
use Rattle.device.specs.Device.{started, byte_taken}
use Rattle.listed.specs.declared.Awaits.{Awaits}
use Rattle.listed.specs.declared.Awaits.TheVariants.{Polyphony, Id, Midi, Refused}
use Rattle.listed.specs.declared.Lister.{Lister}

-- a text listed at a place of a page: what is kept, and the place and the page behind it
pub record Lists (old : List ℕ) (at : ℕ) (text : List ℕ) (l r : Lister) (next : ℕ) (new : List ℕ) : Type 0 where
  pub kept : r ≡ l
  pub put : Put old at text next new

-- R16.2: `at,what,channel,key,generator,was` and 0AH
abbrev pub heading : List ℕ
heading =
    97 ∷ 116 ∷ 44 ∷ 119 ∷ 104 ∷ 97 ∷ 116 ∷ 44 ∷ 99 ∷ 104 ∷ 97 ∷ 110 ∷ 110 ∷ 101 ∷ 108 ∷ 44 ∷ 107 ∷ 101 ∷ 121 ∷ 44
    ∷ 103 ∷ 101 ∷ 110 ∷ 101 ∷ 114 ∷ 97 ∷ 116 ∷ 111 ∷ 114 ∷ 44 ∷ 119 ∷ 97 ∷ 115 ∷ 10 ∷ []

-- before the first byte, with a device that no MIDI byte reaches
unfoldable pub new_lister : Lister
new_lister = record { awaits = Polyphony; at = 0; device = (started 1 0).device }

-- the offset of the MIDI byte behind this one; a count of 64 bits stays at its last number
unfoldable pub next_offset : ℕ → ℕ
next_offset n = if ltb n 18446744073709551615 then n + 1 else n

-- what comes behind a start: it answers a number or *done*
unfoldable pub behind_start : Answer → Awaits
behind_start answer.Nothing = Midi
behind_start answer.Done = Midi
behind_start (answer.Note c k g w) = Midi
behind_start (answer.NoNote r c k) = Midi
behind_start (answer.Number r) = Refused r

unfoldable pub is_refused : Awaits → Bool
is_refused Polyphony = false
is_refused (Id p) = false
is_refused Midi = false
is_refused (Refused r) = true

-- R16.6: a refused start has a line; R16.5: a good one has none
unfoldable pub start_line : Output → List ℕ
start_line o = if is_refused (behind_start o.answer) then line_of None o.answer else []

unfoldable pub start_lister : Output → Lister
start_lister o = record { awaits = behind_start o.answer; at = 0; device = o.device }

-- R16.3: a MIDI byte, by its place from 0 on
unfoldable pub midi_line : Lister → ℕ → List ℕ
midi_line l b = line_of (Some l.at) (byte_taken l.device b).answer

unfoldable pub after_midi : Lister → ℕ → Lister
after_midi l b = record { awaits = Midi; at = next_offset l.at; device = (byte_taken l.device b).device }

-- R16.1: P, the own ID, then MIDI bytes: what a byte lists, and what is kept after it
abbrev pub line_by : Awaits → Lister → ℕ → List ℕ
line_by Polyphony l b = []
line_by (Id p) l b = start_line (started p b)
line_by Midi l b = midi_line l b
line_by (Refused r) l b = []

unfoldable pub line : Lister → ℕ → List ℕ
line l b = line_by l.awaits l b

abbrev pub after_by : Awaits → Lister → ℕ → Lister
after_by Polyphony l b = record { awaits = Id b; at = l.at; device = l.device }
after_by (Id p) l b = start_lister (started p b)
after_by Midi l b = after_midi l b
after_by (Refused r) l b = l

unfoldable pub after : Lister → ℕ → Lister
after l b = after_by l.awaits l b

-- several bytes
unfoldable pub listed_by : Lister → List ℕ → List ℕ
listed_by l [] = []
listed_by l (b ∷ bs) = line l b ++ listed_by (after l b) bs

unfoldable pub after_all : Lister → List ℕ → Lister
after_all l [] = l
after_all l (b ∷ bs) = after_all (after l b) bs

-- what is said of a reason, said of the one that is kept, if one is
abbrev pub InAwaits : (Refusal → Type 0) → Awaits → Type 0
InAwaits P Polyphony = Unit {0}
InAwaits P (Id p) = Unit {0}
InAwaits P Midi = Unit {0}
InAwaits P (Refused r) = P r

-- R16.1: the end of the input: a missing P or ID is 0
abbrev pub missing : Awaits → List ℕ
missing Polyphony = 0 ∷ 0 ∷ []
missing (Id p) = 0 ∷ []
missing Midi = []
missing (Refused r) = []

unfoldable pub end_line : Lister → List ℕ
end_line l = listed_by l (missing l.awaits)

-- R16.2: what the program writes for an input, the first line always
unfoldable pub listing : List ℕ → List ℕ
listing input = heading ++ (listed_by new_lister input ++ end_line (after_all new_lister input))

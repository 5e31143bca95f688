-- The pitch of a note (section 11 of docs/RULES.md), by its key, the sensitivity and the bend of its channel.
-- Assumes nothing.
use Rattle.std.specs.Prelude.{ℕ, zero, suc, ◌+◌, ◌-◌, ◌*◌, ◌/◌, ◌%◌, ◌^◌, ◌<◌, Bool, ◌||◌, leb, ltb, if◌then◌else◌}
use Rattle.std.specs.Prelude.{ℤ, pos, negsuc, ◌+ℤ◌, ◌*ℤ◌, Result, Ok, Err}
use Rattle.std.proofs.Math.Option.{Option, some, none}
use Rattle.std.specs.Float.Ieee.{up, down}
use Rattle.std.proofs.Math.IntN.{sub_ℕ}
use Rattle.pitch.specs.declared.Pitch.{Pitch}
use Rattle.refusals.specs.declared.Refusal.{Refusal}
use Rattle.refusals.specs.declared.Refusal.TheVariants as refusal
use Rattle.refusals.specs.Refusals.{number}

-- the floor of a quotient, toward minus infinity (`negsuc n` is -(n + 1)), and what remains, 0 to d - 1
abbrev pub floor_div : ℤ → ℕ → ℤ
floor_div (pos n) d = pos (n / d)
floor_div (negsuc n) d = negsuc (n / d)

abbrev pub rest : ℤ → ℕ → ℕ
rest (pos n) d = n % d
rest (negsuc n) d = d - 1 - n % d

-- R11.1: the position, 16 a semitone: 16 for each key, and 16 a semitone of the sensitivity for every 8192 steps that
-- the bend is from its centre, rounded down
unfoldable pub position : ℕ → ℕ → ℕ → ℤ
position k s b = pos (16 * k) +ℤ floor_div (pos (16 * s) *ℤ sub_ℕ b 8192) 8192

-- the largest number up to m that passes, 0 if none does
unfoldable pub largest : (ℕ → Bool) → ℕ → ℕ
largest p zero = 0
largest p (suc m) = if p (suc m) then suc m else largest p m

-- R11.2: entry i of the octave, 0 to 191. No power is less than its number, so that the search for the largest need
-- not go further
unfoldable pub entry : ℕ → ℕ
entry i = largest (λ n. leb (n ^ 192) (2 ^ (3072 + i))) (2 ^ (3072 + i))

-- R11.3: an octave is 192 sixteenths: which one, and the entry of what remains
unfoldable pub pitch_at : ℤ → Pitch
pitch_at p = record { octave = floor_div p 192; entry = entry (rest p 192) }

-- R8.21: a key, sensitivity or bend that MIDI does not have
abbrev pub is_out : ℕ → ℕ → ℕ → Bool
is_out k s b = ltb 127 k || (ltb 24 s || ltb 16383 b)

unfoldable pub pitch_of : ℕ → ℕ → ℕ → Result Pitch Refusal
pitch_of k s b = if is_out k s b then Err refusal.PitchOutOfRange else Ok (pitch_at (position k s b))

-- R8.21: the number of the answer
abbrev pub pitch_number : Result Pitch Refusal → Option ℕ
pitch_number (Ok p) = none
pitch_number (Err r) = some (number r)

-- R11.5: what a refused call answers beside its number
abbrev pub pitch_in : Result Pitch Refusal → Pitch
pitch_in (Ok p) = p
pitch_in (Err r) = record { octave = pos 0; entry = 65536 }

-- R11.4: a pitch that is lower than another: a pitch is its entry times 2 to the power of its octave, which is the
-- fraction up / down
abbrev pub Lower : Pitch → Pitch → Type 0
Lower p q = p.entry * up p.octave * down q.octave < q.entry * up q.octave * down p.octave

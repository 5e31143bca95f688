-- The gains left and right of a channel (section 12 of docs/RULES.md), by its expression, volume and pan.
-- Assumes nothing.
use Rattle.std.specs.Prelude.{ℕ, suc, ◌+◌, ◌-◌, ◌*◌, ◌≤◌, ◌<◌, ◌≡◌, Bool, true, false, ◌||◌, ltb, if◌then◌else◌}
use Rattle.std.specs.Prelude.{List, [], ◌∷◌, get_or, Float, Result, Ok, Err}
use Rattle.std.proofs.Math.Option.{Option, some, none}
use Rattle.std.specs.Float.{binary32}
use Rattle.std.specs.Float.Ieee.{of_bits}
use Rattle.refusals.specs.declared.Refusal.{Refusal}
use Rattle.refusals.specs.declared.Refusal.TheVariants as refusal
use Rattle.refusals.specs.Refusals.{number}
use Rattle.channels.specs.declared.Channel.{Channel}
use Rattle.gains.specs.declared.Gains.{Gains}
use Rattle.gains.specs.Within.{Within, AtMost1, Is0}

-- R12.4: the 127 weights, each nearest to its sine. No proof speaks of a sine, so that a test program compares them
-- (rust/tests/gains.rs)
abbrev pub weights : List ℕ
weights =
    0 ∷ 408 ∷ 817 ∷ 1225 ∷ 1633 ∷ 2041 ∷ 2449 ∷ 2856 ∷ 3263 ∷ 3669 ∷ 4074 ∷ 4480
    ∷ 4884 ∷ 5287 ∷ 5690 ∷ 6092 ∷ 6493 ∷ 6893 ∷ 7292 ∷ 7689 ∷ 8086 ∷ 8481 ∷ 8875 ∷ 9267
    ∷ 9659 ∷ 10048 ∷ 10436 ∷ 10823 ∷ 11207 ∷ 11590 ∷ 11971 ∷ 12351 ∷ 12728 ∷ 13104 ∷ 13477 ∷ 13848
    ∷ 14218 ∷ 14584 ∷ 14949 ∷ 15311 ∷ 15671 ∷ 16029 ∷ 16384 ∷ 16736 ∷ 17086 ∷ 17434 ∷ 17778 ∷ 18120
    ∷ 18459 ∷ 18795 ∷ 19128 ∷ 19458 ∷ 19785 ∷ 20110 ∷ 20431 ∷ 20748 ∷ 21063 ∷ 21374 ∷ 21682 ∷ 21987
    ∷ 22288 ∷ 22586 ∷ 22880 ∷ 23170 ∷ 23458 ∷ 23741 ∷ 24021 ∷ 24297 ∷ 24569 ∷ 24837 ∷ 25102 ∷ 25362
    ∷ 25619 ∷ 25872 ∷ 26120 ∷ 26365 ∷ 26606 ∷ 26842 ∷ 27074 ∷ 27302 ∷ 27526 ∷ 27745 ∷ 27961 ∷ 28171
    ∷ 28378 ∷ 28580 ∷ 28778 ∷ 28971 ∷ 29159 ∷ 29343 ∷ 29523 ∷ 29698 ∷ 29868 ∷ 30034 ∷ 30195 ∷ 30351
    ∷ 30503 ∷ 30650 ∷ 30792 ∷ 30929 ∷ 31062 ∷ 31189 ∷ 31312 ∷ 31430 ∷ 31543 ∷ 31651 ∷ 31755 ∷ 31853
    ∷ 31946 ∷ 32035 ∷ 32118 ∷ 32197 ∷ 32270 ∷ 32339 ∷ 32402 ∷ 32460 ∷ 32514 ∷ 32562 ∷ 32605 ∷ 32643
    ∷ 32676 ∷ 32704 ∷ 32727 ∷ 32745 ∷ 32758 ∷ 32765 ∷ 32768
    ∷ []

unfoldable pub weight : ℕ → ℕ
weight p = get_or weights p 0

-- what is proved of the table: R12.3: it rises strictly from 0 to 32768; R12.5: the squares of both sides come to
-- nearly the same everywhere, so that the two together are nowhere louder or softer than 32768 alone by more than
-- that
pub record Weighs (W : ℕ → ℕ) : Type 0 where
  pub first : W 0 ≡ 0
  pub last : W 126 ≡ 32768
  pub rises : (p : ℕ) → p < 126 → W p < W (suc p)
  pub not_over : (p : ℕ) → p < 127 → W p * W p + W (126 - p) * W (126 - p) ≤ 1073741824 + 46342
  pub not_under : (p : ℕ) → p < 127 → 1073741824 ≤ W p * W p + W (126 - p) * W (126 - p) + 46342

-- R12.2: pan is lowered by 1, but not below 0, where a difference never is
abbrev pub panned : ℕ → ℕ
panned p = p - 1

-- R12.1: the exact fraction is (e / 127) squared, times (v / 127) squared, times w / 32768; R12.7: the gain x differs
-- from it by at most a millionth; R12.8: it is not above 1, so that no sample grows, and 0 where the fraction is, so
-- that silence is silence
abbrev pub Near : ℕ → ℕ → ℕ → Float → Type 0
Near e v w x =
    Within 1000000 x (e * e * (v * v) * w) (127 * 127 * (127 * 127) * 32768)
    × AtMost1 x × (e * e * (v * v) * w ≡ 0 → Is0 x)

-- R8.24: expression, volume or pan above 127
abbrev pub is_out : ℕ → ℕ → ℕ → Bool
is_out e v p = ltb 127 e || (ltb 127 v || ltb 127 p)

abbrev pub number_for : ℕ → ℕ → ℕ → Option ℕ
number_for e v p = if is_out e v p then some (number refusal.GainsOutOfRange) else none

-- R12.9: what a refused call gives
abbrev pub silent : Gains
silent = record { left = of_bits binary32 0; right = of_bits binary32 0 }

-- R12.6: the gains of a call, refused or not: the left weight at 126 less the lowered pan, the right one at it
abbrev pub Gives : Bool → ℕ → ℕ → ℕ → Gains → Type 0
Gives true e v p g = g ≡ silent
Gives false e v p g = Near e v (weight (126 - panned p)) g.left × Near e v (weight (panned p)) g.right

-- R8.24: the number of the answer, and its gains
abbrev pub gains_number : Result Gains Refusal → Option ℕ
gains_number (Ok g) = none
gains_number (Err r) = some (number r)

abbrev pub gains_in : Result Gains Refusal → Gains
gains_in (Ok g) = g
gains_in (Err r) = silent

-- what a call answers: its number under its condition and under no other, and its gains. Which float it is, among those
-- near enough, is left free
abbrev pub Answered : ℕ → ℕ → ℕ → Result Gains Refusal → Type 0
Answered e v p a = (gains_number a ≡ number_for e v p) × Gives (is_out e v p) e v p (gains_in a)

-- R8.24: the reason itself too, since `Other` could hold the same number
abbrev pub ForItsReason : Result Gains Refusal → Type 0
ForItsReason (Ok g) = Unit {0}
ForItsReason (Err r) = r ≡ refusal.GainsOutOfRange

-- R12.10: the same, by the numbers of a channel in the record
abbrev pub AnsweredOf : Channel → Result Gains Refusal → Type 0
AnsweredOf c a = Answered c.expression c.volume c.pan a

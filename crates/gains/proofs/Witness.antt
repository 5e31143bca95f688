-- The words of the contract bite. First a float that is near a fraction, and those that are not; then what a call
-- promises where a hand can check it; then what the laws of a table say of any table. A definition loosened behind its
-- name would not give these facts.
-- Assumes nothing.
use Rattle.std.specs.Prelude.{Result, Ok, Err}
use mathlib.Core.Path.{◌≡◌, refl, ap}
use mathlib.Core.Bool.{true, false}
use mathlib.Core.Option.{some, none}
use Prim.Native.Nat.{ℕ, suc, ◌+◌, ◌-◌, ◌*◌, ◌≤◌, ◌<◌}
use native.Mathlib.Omega.{arith}
use lib.Dec.{lit≤}
use lib.IntN.{ℤ, pos, negsuc}
use lib.Ieee.{nan, inf, fin, of_bits}
use Rattle.channels.specs.declared.Channel.{Channel}
use Rattle.loops.proofs.Tests.{impossible}
use Rattle.refusals.specs.declared.Refusal.{Refusal}
use Rattle.refusals.specs.declared.Refusal.TheVariants as refusal
use Rattle.gains.specs.declared.Gains.{Gains}
use Rattle.gains.specs.Within.{Within, AtMost1, Is0}
use Rattle.gains.specs.Gains.{weight, Weighs, gains_number, gains_in, Answered, AnsweredOf, ForItsReason}

-- ---- one half, beside fractions that are exactly a millionth and a little more away

pub a_millionth_above : Within 1000000 (fin false 1 (negsuc 0)) 499999 1000000
a_millionth_above = (refl, lit≤ tt, lit≤ tt)

pub a_millionth_below : Within 1000000 (fin false 1 (negsuc 0)) 500001 1000000
a_millionth_below = (refl, lit≤ tt, lit≤ tt)

pub too_high : Within 1000000 (fin false 1 (negsuc 0)) 4999989 10000000 → ⊥
too_high w = let h : 10000000000000 ≤ 9999998000000 = w.1 in omega arith

pub too_low : Within 1000000 (fin false 1 (negsuc 0)) 5000011 10000000 → ⊥
too_low w = let h : 10000022000000 ≤ 10000020000000 = w.2 in omega arith

pub not_below_0 : (M m a c : ℕ) (e : ℤ) → Within M (fin true m e) a c → true ≡ false
not_below_0 M m a c e w = w.0

pub no_nan : (M a c : ℕ) → Within M nan a c → ⊥
no_nan M a c w = w

pub no_infinity : (M a c : ℕ) → Within M (inf false) a c → ⊥
no_infinity M a c w = w

-- 1 is not above 1, and what is next to it is
pub one_at_most_1 : AtMost1 (fin false 1 (pos 0))
one_at_most_1 = lit≤ tt

pub next_above_1 : AtMost1 (fin false 8388609 (negsuc 22)) → ⊥
next_above_1 h = let k : 8388609 ≤ 8388608 = h in omega arith

-- the smallest float is not 0
pub least_not_0 : Is0 (fin false 1 (negsuc 148)) → ⊥
least_not_0 h = let k : ◌≡◌ {A = ℕ} 1 0 = h in omega arith

-- ---- calls: 260144641 is 127 to the power 4

-- full level at pan 64, the centre: weight 63 on both sides
pub centre : (a : Result Gains Refusal) → Answered 127 127 64 a
    → Within 1000000 (gains_in a).left (260144641 * 23170) (260144641 * 32768)
    × Within 1000000 (gains_in a).right (260144641 * 23170) (260144641 * 32768)
unfolding weight
centre a h = (h.1.0.0, h.1.1.0)

-- half the expression and a third of the volume, full right: 64 squared times 42 squared, and nothing on the left
pub quiet_and-right : (a : Result Gains Refusal) → Answered 64 42 127 a
    → Within 1000000 (gains_in a).left 0 (260144641 * 32768)
    × Within 1000000 (gains_in a).right (4096 * 1764 * 32768) (260144641 * 32768)
unfolding weight
quiet_and-right a h = (h.1.0.0, h.1.1.0)

pub never_louder : (a : Result Gains Refusal) → Answered 127 127 1 a → AtMost1 (gains_in a).left × AtMost1 (gains_in a).right
never_louder a h = (h.1.0.1, h.1.1.1)

-- at full left nothing is heard on the right, and with volume 0 nothing on either side
pub silent-right : (a : Result Gains Refusal) → Answered 127 127 1 a → Is0 (gains_in a).right
unfolding weight
silent-right a h = h.1.1.2 refl

pub silent_both : (a : Result Gains Refusal) → Answered 127 0 64 a → Is0 (gains_in a).left × Is0 (gains_in a).right
unfolding weight
silent_both a h = (h.1.0.2 refl, h.1.1.2 refl)

-- pan 0 has no place of its own
pub pan_0_as_1 : (a : Result Gains Refusal) → Answered 127 127 0 a → Answered 127 127 1 a
pan_0_as_1 a h = h

pub accepted : (a : Result Gains Refusal) → Answered 127 127 127 a → gains_number a ≡ none
accepted a h = h.0

pub refused : (a : Result Gains Refusal) → Answered 0 0 128 a → gains_number a ≡ some 24
refused a h = h.0

-- not a reason that holds the same number
pub refused_for_its_reason : (a : Result Gains Refusal) → Answered 0 0 128 a → ForItsReason a
    → a ≡ Err refusal.GainsOutOfRange
refused_for_its_reason (Ok g) h s = impossible (cc)
refused_for_its_reason (Err r) h s = ap Err s

pub refused-silent : (a : Result Gains Refusal) → Answered 0 0 128 a
    → gains_in a ≡ record { left = fin false 0 (pos 0); right = fin false 0 (pos 0) }
unfolding of_bits
refused-silent a h = h.1

-- a channel is answered by its own expression, volume and pan
pub of_a_channel : (c : Channel) (a : Result Gains Refusal) → AnsweredOf c a → Answered c.expression c.volume c.pan a
of_a_channel c a h = h

-- ---- the laws of a table, of any table

module _ (W : ℕ → ℕ) (w : Weighs W) where
  pub first_and-last : (W 0 ≡ 0) × (W 126 ≡ 32768)
  first_and-last = (w.first, w.last)

  pub every_step : (p : ℕ) → p < 126 → W p < W (suc p)
  every_step p h = w.rises p h

  pub nowhere_louder : (p : ℕ) → p < 127 → W p * W p + W (126 - p) * W (126 - p) ≤ 1073788166
  nowhere_louder p h = w.not_over p h

  pub nowhere_softer : (p : ℕ) → p < 127 → 1073741824 ≤ W p * W p + W (126 - p) * W (126 - p) + 46342
  nowhere_softer p h = w.not_under p h

-- A float that is near a fraction, one that is at most 1 and one that is 0, said over whole numbers.
-- Assumes nothing.
use Rattle.std.specs.Prelude.{◌≡◌, false, ℕ, ◌+◌, ◌*◌, ◌≤◌, Float}
use Rattle.std.specs.Float.{nan, inf, fin}
use Rattle.std.specs.Float.Ieee.{up, down}

-- x is a number, not negative (nor -0), and differs from a / c by at most 1 / M. A float is m times 2 to the power e,
-- which is the fraction m * up e / down e: x ≤ a / c + 1 / M and a / c ≤ x + 1 / M, with the denominators multiplied
-- out.
abbrev pub Within : ℕ → Float → ℕ → ℕ → Type 0
Within M nan a c = ⊥
Within M (inf s) a c = ⊥
Within M (fin s m e) a c =
    (s ≡ false) × (m * up e * c * M ≤ (a * M + c) * down e) × (a * M * down e ≤ (m * up e * M + down e) * c)

abbrev pub AtMost1 : Float → Type 0
AtMost1 nan = ⊥
AtMost1 (inf s) = ⊥
AtMost1 (fin s m e) = m * up e ≤ down e

abbrev pub Is0 : Float → Type 0
Is0 nan = ⊥
Is0 (inf s) = ⊥
Is0 (fin s m e) = m ≡ 0

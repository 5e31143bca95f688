-- `gains::gain` meets its contract: three quotients and two products, each with its error (`Rounding`), which come to
-- less than a millionth.
-- Assumes nothing.
use mathlib.Core.Path.{refl}
use Prim.Native.Nat.{ℕ, ◌*◌, ◌≤◌, ◌<◌}
use native.Mathlib.Nat.{mul-le-mul, le_trans}
use native.Mathlib.Omega.{arith}
use lib.Dec.{lit≤, lit<}
use lib.IntN.{pos}
use lib.Ieee.{Float, binary32, mul, div, of_int, of_bits}
use Rattle.gains.specs.Gains.{Near}
use Rattle.gains.proofs.Rounding.{H, CloseTo, quotient, mul_close, within, at_most_1, is_0}
use borrow.Author.Rules.{rules}
use Rattle.gains.proofs.gain.Goals as goal

square : (n : ℕ) → n < 128 → n * n ≤ 16129
square n h = mul-le-mul {n₁ = n} {m₁ = n} {n₂ = 127} {m₂ = 127} (omega arith) (omega arith)

-- a square over 16129.0, and a weight over 32768.0
abbrev squared : ℕ → Float
squared n = div binary32 (of_int binary32 (pos (n * n))) (of_bits binary32 0x467c_0400)

abbrev weighed : ℕ → Float
weighed w = div binary32 (of_int binary32 (pos w)) (of_bits binary32 0x4700_0000)

squared-close : (n : ℕ) → n < 128 → CloseTo (squared n) (n * n) 16129 H
unfolding of_bits
squared-close n h =
    quotient (n * n) 16129 16129 (pos 0) (le_trans (square n h) (lit≤ tt)) (square n h) tt (lit< tt) (refl, refl)

weighed-close : (w : ℕ) → w ≤ 32768 → CloseTo (weighed w) w 32768 H
unfolding of_bits
weighed-close w h = quotient w 32768 1 (pos 15) (le_trans h (lit≤ tt)) h tt (lit< tt) (refl, refl)

-- the last line of the body
gained : (e v w : ℕ) → e < 128 → v < 128 → w ≤ 32768
    → Near e v w (mul binary32 (mul binary32 (squared e) (squared v)) (weighed w))
gained e v w he hv hw =
    let level = mul_close _ _ (e * e) 16129 H (v * v) 16129 H (lit< tt) (lit< tt)
    (square e he) (square v hv) (squared-close e he) (squared-close v hv) in
    let all = mul_close _ _ (e * e * (v * v)) (16129 * 16129) _ w 32768 H (lit< tt) (lit< tt)
    (mul-le-mul (square e he) (square v hv)) hw level (weighed-close w hw) in
    (within _ _ (e * e * (v * v) * w) (16129 * 16129 * 32768) _ (lit≤ tt) all, at_most_1 _ _ _ _ all, is_0 _ _ _ _ all)

pub returns : goal.returns
returns c =
    let a = c.args in
    gained a.e a.v a.w (search rules) (search rules) (search rules)

-- Floors of integers, by natural numbers. A position that is counted from 384 below 0, two octaves, is never negative,
-- and there the quotient of natural numbers is the floor. So the octave and the remainder are found without a sign, and
-- two octaves are taken off again.
-- Assumes nothing.
use mathlib.Core.Path.{◌≡◌, refl, sym, ap, ◌∙◌}
use mathlib.Core.Bool.{Bool, true, false, cond}
use Prim.Native.Nat.{ℕ, zero, suc, ◌+◌, ◌-◌, ◌*◌, ◌/◌, ◌%◌, ◌≤◌, ◌<◌}
use native.Mathlib.Nat.{add_comm, mul-add, suc-mul, mul-le-mul_left, le_of_lt, mod-lt, mod-add-div'}
use native.Mathlib.Omega.{arith}
use lib.Dec.{ltb}
use lib.IntN.{ℤ, pos, negsuc, neg_ℤ, sub_ℕ, ◌+ℤ◌, ◌*ℤ◌}
use borrow.Author.Tests.{ltb-true, ltb-false, lt-ltb, le-ltb}
use Rattle.pitch.specs.Pitch.{floor_div, rest, position}

-- the words: d times the floor, and the remainder, is the number; and the remainder is 0 to d - 1, so that no other
-- quotient can be meant
below_zero : (x n r : ℕ) → x ≡ n + suc r → neg_ℤ (pos x) +ℤ pos r ≡ negsuc n
below_zero zero n r e = absurd (omega (arith, e))
below_zero (suc y) n r e = rw (lt-ltb r (suc y) (omega (arith, e))) (ap negsuc (omega (arith, e)))

pub divided : (z : ℤ) (d : ℕ) → 0 < d → ((floor_div z d *ℤ pos d) +ℤ pos (rest z d) ≡ z) × (rest z d < d)
divided (pos n) d h = (ap pos (add_comm _ _ ∙ mod-add-div' n d), mod-lt n h)
divided (negsuc n) d h =
    let l = mod-lt n h in
    let e : n % d + n / d * d ≡ n = mod-add-div' n d in
    let m : suc (n / d) * d ≡ n / d * d + d = suc-mul (n / d) d in
    (below_zero (suc (n / d) * d) n (d - 1 - n % d) (omega (arith, l, e, m, h)), omega (arith, l))

pub octave_of : (n : ℕ) → floor_div (sub_ℕ n 384) 192 ≡ sub_ℕ (n / 192) 2
octave_of n = go (ltb n 384) refl
  where
    go : (b : Bool) → ltb n 384 ≡ b → floor_div (cond b (negsuc (384 - suc n)) (pos (n - 384))) 192 ≡ sub_ℕ (n / 192) 2
    go true e =
        let h = ltb-true n 384 e in
        let l : n / 192 < 2 = omega arith in
        rw (lt-ltb (n / 192) 2 l) (ap negsuc (omega arith))
    go false e =
        let h = ltb-false n 384 e in
        let l : 2 ≤ n / 192 = omega arith in
        rw (le-ltb (n / 192) 2 l) (ap pos (omega arith))

pub rest_of : (n : ℕ) → rest (sub_ℕ n 384) 192 ≡ n % 192
rest_of n = go (ltb n 384) refl
  where
    go : (b : Bool) → ltb n 384 ≡ b → rest (cond b (negsuc (384 - suc n)) (pos (n - 384))) 192 ≡ n % 192
    go true e = let h = ltb-true n 384 e in omega arith
    go false e = let h = ltb-false n 384 e in omega arith

-- a floor below 0, which x stands for as `negsuc`, added to a
negative : (a x n : ℕ) → n + suc (x / 8192) ≡ a + 384 → sub_ℕ n 384 ≡ pos a +ℤ negsuc (x / 8192)
negative a x n i = go (ltb a (suc (x / 8192))) refl
  where
    go : (b : Bool) → ltb a (suc (x / 8192)) ≡ b
        → sub_ℕ n 384 ≡ cond b (negsuc (suc (x / 8192) - suc a)) (pos (a - suc (x / 8192)))
    go true e =
        let h = ltb-true a (suc (x / 8192)) e in
        let l : n < 384 = omega arith in
        rw (lt-ltb n 384 l) (ap negsuc (omega arith))
    go false e =
        let h = ltb-false a (suc (x / 8192)) e in
        let l : 384 ≤ n = omega arith in
        rw (le-ltb n 384 l) (ap pos (omega arith))

-- a product that is not positive: x is its amount, no more than q for each unit of the bend
negated : (a x q n : ℕ) → x ≤ q * 8192 → q ≤ 384 → n ≡ 384 + a - q + (q * 8192 - x) / 8192
    → sub_ℕ n 384 ≡ pos a +ℤ floor_div (neg_ℤ (pos x)) 8192
negated a zero q n h l e = let k : 384 ≤ n = omega arith in rw (le-ltb n 384 k) (ap pos (omega arith))
negated a (suc x) q n h l e = negative a x n (omega arith)

-- the position, counted from 384 below 0; q is the range of the bend, 16 for each semitone
bent : (a q b : ℕ) → q ≤ 384 → sub_ℕ (384 + a - q + q * b / 8192) 384 ≡ pos a +ℤ floor_div (pos q *ℤ sub_ℕ b 8192) 8192
bent a q b l = go (ltb b 8192) refl
  where
    go : (t : Bool) → ltb b 8192 ≡ t
        → sub_ℕ (384 + a - q + q * b / 8192) 384
        ≡ pos a +ℤ floor_div (pos q *ℤ cond t (negsuc (8192 - suc b)) (pos (b - 8192))) 8192
    go true e =
        let h = ltb-true b 8192 e in
        let d : b + suc (8192 - suc b) ≡ 8192 = omega arith in
        let m : q * b + q * suc (8192 - suc b) ≡ q * 8192 =
        sym (mul-add q b (suc (8192 - suc b))) ∙ ap (λ (z : ℕ). q * z) d in
        let r : 384 + a - q + q * b / 8192 ≡ 384 + a - q + (q * 8192 - q * suc (8192 - suc b)) / 8192 =
        ap (λ (z : ℕ). 384 + a - q + z / 8192) (omega arith) in
        negated a (q * suc (8192 - suc b)) q (384 + a - q + q * b / 8192) (omega arith) l r
    go false e =
        let h = ltb-false b 8192 e in
        let d : 8192 + (b - 8192) ≡ b = omega arith in
        let m : q * 8192 + q * (b - 8192) ≡ q * b = sym (mul-add q 8192 (b - 8192)) ∙ ap (λ (z : ℕ). q * z) d in
        let k : 384 ≤ 384 + a - q + q * b / 8192 = omega arith in
        rw (le-ltb (384 + a - q + q * b / 8192) 384 k) (ap pos (omega arith))

pub position_of : (k s b : ℕ) → s ≤ 24 → sub_ℕ (384 + 16 * k - 16 * s + 16 * s * b / 8192) 384 ≡ position k s b
unfolding position
position_of k s b h = bent (16 * k) (16 * s) b (omega arith)

-- the raised position is below fifteen octaves
pub raised_below : (k q b : ℕ) → k < 128 → q ≤ 384 → b < 16384 → 384 + 16 * k - q + q * b / 8192 < 2880
raised_below k q b h l m =
    let t : q * b ≤ q * 16384 = mul-le-mul_left q (le_of_lt m) in
    omega arith

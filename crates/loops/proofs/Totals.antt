-- A loop that adds up: at turn i the sum is that of the first i terms.
-- Assumes nothing.
use mathlib.Core.Path.{◌≡◌, refl}
use mathlib.Core.Bool.{Bool, true, false}
use Prim.Native.Nat.{ℕ, zero, suc, ◌+◌, ◌≤◌, ◌<◌}
use native.Mathlib.Numerals.{add-one}
use native.Mathlib.Omega.{arith}
use Rattle.loops.specs.Cases.{bit}
use Rattle.loops.specs.Passes.{total}

pub bit_le : (b : Bool) → bit b ≤ 1
bit_le true = omega arith
bit_le false = omega arith

-- a turn of the loop
pub total-next : (f : ℕ → ℕ) (i a x : ℕ) → a ≡ total f i → x ≡ f i → a + x ≡ total f (i + 1)
unfolding total
total-next f i a x p q = rw (add-one, p, q)

-- the same terms give the same sum
pub total-same : (f g : ℕ → ℕ) (n : ℕ) → ((i : ℕ) → i < n → f i ≡ g i) → total f n ≡ total g n
unfolding total
total-same f g zero h = refl
total-same f g (suc n) h = rw (total-same f g n (λ i k. h i (omega arith)), h n (omega arith))

-- smaller terms give a smaller sum
pub total_le : (f g : ℕ → ℕ) (n : ℕ) → ((i : ℕ) → f i ≤ g i) → total f n ≤ total g n
unfolding total
total_le f g zero h = omega arith
total_le f g (suc n) h = let k = total_le f g n h in let j = h n in omega arith

-- nothing adds up to nothing
pub total_zero : (n : ℕ) → total (λ i. 0) n ≡ 0
unfolding total
total_zero zero = refl
total_zero (suc n) = let k = total_zero n in omega arith

-- a count is at most the number of places
pub total_bits : (t : ℕ → Bool) (n : ℕ) → total (λ i. bit (t i)) n ≤ n
unfolding total
total_bits t zero = omega arith
total_bits t (suc n) = let k = total_bits t n in let b = bit_le (t n) in omega arith

-- sums add up term by term
pub total_add : (f g : ℕ → ℕ) (n : ℕ) → total (λ i. f i + g i) n ≡ total f n + total g n
unfolding total
total_add f g zero = refl
total_add f g (suc n) = let k = total_add f g n in omega arith

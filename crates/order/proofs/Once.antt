-- An order holds the sixteen channels and nothing else: its sixteen counts come to sixteen, which is its length, so
-- nothing else stands there.
-- Assumes nothing.
use mathlib.Core.Path.{◌≡◌, refl, ap, ◌∙◌}
use mathlib.Core.Bool.{Bool, true, false, ◌&&◌}
use mathlib.Core.List.{List, [], ◌∷◌}
use Prim.Native.Nat.{ℕ, zero, suc, ◌+◌, ◌≤◌, ◌<◌}
use native.Mathlib.Omega.{arith}
use borrow.Author.Tests.{eqb-true, eqb-false, leb-true, leb-false}
use lib.Dec.{eqb, leb}
use lib.ListN.{length}
use Rattle.loops.specs.Cases.{bit}
use Rattle.loops.specs.Passes.{total, count}
use Rattle.loops.proofs.Tests.{and_left, and_right}
use Rattle.loops.proofs.Totals.{bit_le, total_zero, total_add}
use Rattle.order.specs.Order.{each, times, is_order}
use Rattle.order.proofs.Counting.{each_at}

-- ---- counting

abbrev within : ℕ → ℕ → Bool
within n x = leb 1 x && leb x n

-- one number among 1 to n
total_one : (x n : ℕ) → total (λ i. bit (eqb x (i + 1))) n ≡ bit (within n x)
unfolding total
total_one x zero = go (leb 1 x) (leb x 0) refl refl
  where
    go : (a b : Bool) → leb 1 x ≡ a → leb x 0 ≡ b → 0 ≡ bit (a && b)
    go true true p q = let s = leb-true 1 x p in let t = leb-true x 0 q in absurd (omega arith)
    go true false p q = refl
    go false b p q = refl
total_one x (suc n) = go (eqb x (n + 1)) (leb 1 x) (leb x n) (leb x (suc n)) refl refl refl refl (total_one x n)
  where
    go : (e a b c : Bool) → eqb x (n + 1) ≡ e → leb 1 x ≡ a → leb x n ≡ b → leb x (suc n) ≡ c
        → total (λ i. bit (eqb x (i + 1))) n ≡ bit (a && b) → total (λ i. bit (eqb x (i + 1))) n + bit e ≡ bit (a && c)
    go true true true c p q r s ih = let t = eqb-true x (n + 1) p in let u = leb-true x n r in absurd (omega arith)
    go true true false true p q r s ih = omega arith
    go true true false false p q r s ih =
        let t = eqb-true x (n + 1) p in
        let u = leb-false x (suc n) s in
        absurd (omega arith)
    go true false b c p q r s ih = let t = eqb-true x (n + 1) p in let u = leb-false 1 x q in absurd (omega arith)
    go false true true true p q r s ih = omega arith
    go false true true false p q r s ih =
        let u = leb-true x n r in
        let v = leb-false x (suc n) s in
        absurd (omega arith)
    go false true false true p q r s ih =
        let t = eqb-false x (n + 1) p in
        let u = leb-false x n r in
        let v = leb-true x (suc n) s in
        absurd (t (omega arith))
    go false true false false p q r s ih = omega arith
    go false false b c p q r s ih = omega arith

-- the counts of 1 to n come to the number of elements among 1 to n
total-times : (n : ℕ) (l : List ℕ) → total (λ i. times l (i + 1)) n ≡ count (within n) l
unfolding count
total-times n [] = total_zero n
total-times n (x ∷ l) =
    let a = total_add (λ (i : ℕ). bit (eqb x (i + 1))) (λ (i : ℕ). times l (i + 1)) n in
    let b = total_one x n in
    let c = total-times n l in
    omega arith

total_ones : (f : ℕ → ℕ) (n : ℕ) → ((i : ℕ) → i < n → f i ≡ 1) → total f n ≡ n
unfolding total
total_ones f zero h = refl
total_ones f (suc n) h = let k = total_ones f n (λ i s. h i (omega arith)) in let l = h n (omega arith) in omega arith

count_le : (p : ℕ → Bool) (l : List ℕ) → count p l ≤ length l
unfolding count
count_le p [] = omega arith
count_le p (x ∷ l) = let k = count_le p l in let b = bit_le (p x) in omega arith

-- ---- what an order holds

-- each is a channel
abbrev pub Members : List ℕ → Type 0
Members [] = Unit {0}
Members (c ∷ l) = ((1 ≤ c) × (c ≤ 16)) × Members l

members : (l : List ℕ) → length l ≤ count (within 16) l → Members l
unfolding count
members [] h = tt
members (x ∷ l) h = go (leb 1 x) (leb x 16) refl refl (λ k. members l k)
  where
    go : (a b : Bool) → leb 1 x ≡ a → leb x 16 ≡ b
        → (length l ≤ count (within 16) l → Members l) → ((1 ≤ x) × (x ≤ 16)) × Members l
    go true true p q ih =
        ((leb-true 1 x p, leb-true x 16 q), ih (let e : bit (within 16 x) ≡ 1 = rw (p, q) in omega arith))
    go true false p q ih =
        let e : bit (within 16 x) ≡ 0 = rw (p, q) in
        let k = count_le (within 16) l in
        absurd (omega arith)
    go false b p q ih = let e : bit (within 16 x) ≡ 0 = rw p in let k = count_le (within 16) l in absurd (omega arith)

pub record Order (order : List ℕ) : Type 0 where
  pub size : length order ≡ 16
  pub channels : Members order
  pub once : (c : ℕ) → 1 ≤ c → c ≤ 16 → times order c ≡ 1

pub order_holds : (order : List ℕ) → is_order order ≡ true → Order order
unfolding is_order
order_holds order h =
    let a = and_left (eqb (length order) 16) (each (λ i. eqb (times order (i + 1)) 1) 16) h in
    let b = and_right (eqb (length order) 16) (each (λ i. eqb (times order (i + 1)) 1) 16) h in
    let size : length order ≡ 16 = eqb-true (length order) 16 a in
    let ones : (i : ℕ) → i < 16 → times order (i + 1) ≡ 1 =
    λ i k. eqb-true (times order (i + 1)) 1 (each_at (λ i. eqb (times order (i + 1)) 1) 16 i b k) in
    let t = total_ones (λ (i : ℕ). times order (i + 1)) 16 ones in
    let c = total-times 16 order in
    record { size = size; channels = members order (omega arith); once = once ones }
  where
    once : ((i : ℕ) → i < 16 → times order (i + 1) ≡ 1) → (c : ℕ) → 1 ≤ c → c ≤ 16 → times order c ≡ 1
    once ones zero p q = absurd (omega arith)
    once ones (suc i) p q = let e : suc i ≡ i + 1 = omega arith in ap (times order) e ∙ ones i (omega arith)

-- What the tests of an order cite: occurrences counted as the library counts, and a test that passes at each of the
-- first n.
-- Assumes nothing.
use Rattle.std.specs.List.{count_by, list_all, range_with_len}
use Rattle.std.proofs.lemmas.List.Recursion.{is_count_by, and_push}
use mathlib.Core.Path.{◌≡◌, refl, ap, ◌∙◌}
use mathlib.Core.Bool.{Bool, true, false, cond, ◌&&◌}
use mathlib.Core.List.{List, [], ◌∷◌, ◌++◌}
use Prim.Native.Nat.{ℕ, zero, suc, ◌+◌, ◌<◌}
use native.Mathlib.Omega.{arith}
use borrow.Author.Tests.{eqb-true, eqb-false}
use lib.Dec.{eqb}
use Rattle.loops.specs.Cases.{bit}
use Rattle.loops.specs.Passes.{count}
use Rattle.loops.proofs.Tests.{and_left, and_right}
use Rattle.order.specs.Order.{each}

step : (b : Bool) (n : ℕ) → bit b + n ≡ cond b (1 + n) n
step true n = refl
step false n = omega arith

-- the library's count is the definition's
pub counts : (p : ℕ → Bool) (l : List ℕ) → count p l ≡ count_by p l
unfolding count
counts p l = is_count_by (count p) p refl (λ x xs. step (p x) (count p xs)) l

range_snoc : (a n : ℕ) → range_with_len a (suc n) ≡ range_with_len a n ++ ((a + n) ∷ [])
range_snoc a zero = let e : a ≡ a + 0 = omega arith in ap (λ (x : ℕ). x ∷ []) e
range_snoc a (suc n) =
    let e : a + 1 + n ≡ a + suc n = omega arith in
    ap (λ (l : List ℕ). a ∷ l) (range_snoc (a + 1) n ∙ ap (λ (x : ℕ). range_with_len (a + 1) n ++ (x ∷ [])) e)

-- the library's test of all numbers below n is the definition's
pub all_each : (p : ℕ → Bool) (n : ℕ) → list_all p (range_with_len 0 n) ≡ each p n
unfolding each
all_each p zero = refl
all_each p (suc n) =
    ap (list_all p) (range_snoc 0 n) ∙ and_push (list_all p) p refl (λ _ _. refl) (range_with_len 0 n) (0 + n)
    ∙ ap (λ (b : Bool). b && p (0 + n)) (all_each p n) ∙ ap (λ (x : ℕ). each p n && p x) (omega arith)

pub each_at : (p : ℕ → Bool) (n i : ℕ) → each p n ≡ true → i < n → p i ≡ true
unfolding each
each_at p zero i h k = absurd (omega arith)
each_at p (suc n) i h k = go (eqb i n) refl (λ s. each_at p n i (and_left (each p n) (p n) h) s)
  where
    go : (b : Bool) → eqb i n ≡ b → (i < n → p i ≡ true) → p i ≡ true
    go true e ih = ap p (eqb-true i n e) ∙ and_right (each p n) (p n) h
    go false e ih = let s = eqb-false i n e in ih (omega arith)

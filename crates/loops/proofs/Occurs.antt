-- How often a number occurs in a list: after a filter, behind one element more, and summed over all numbers, which
-- gives the length.
-- Assumes nothing.
use Rattle.std.specs.Prelude.{if◌then◌else◌}
use mathlib.Core.Path.{◌≡◌, refl, sym, ap, ◌∙◌}
use mathlib.Core.Bool.{Bool, true, false}
use mathlib.Core.List.{List, [], ◌∷◌, ◌++◌}
use Prim.Native.Nat.{ℕ, zero, suc, ◌+◌, ◌≤◌, ◌<◌}
use native.Mathlib.Omega.{arith}
use borrow.Author.Tests.{eqb-true, eqb-false, eq-eqb, ltb-true, ltb-false, le-ltb}
use lib.Dec.{eqb, ltb}
use lib.ListN.{length}
use Rattle.loops.specs.Cases.{bit}
use Rattle.loops.specs.Passes.{total, filter_by, count}
use Rattle.loops.proofs.Totals.{bit_le, total_zero, total_bits, total_add}
use Rattle.loops.proofs.Search.{count-append}
use Rattle.loops.proofs.Tests.{impossible}

abbrev pub occurs : ℕ → List ℕ → ℕ
occurs h l = count (λ x. eqb x h) l

-- a filter leaves the occurrences of what passes, and none of what does not
pub occurs_filter : (p : ℕ → Bool) (h : ℕ) (l : List ℕ) → occurs h (filter_by p l) ≡ (if p h then occurs h l else 0)
unfolding count filter_by
occurs_filter p h [] = go (p h)
  where
    go : (b : Bool) → ◌≡◌ {A = ℕ} 0 (if b then 0 else 0)
    go true = refl
    go false = refl
occurs_filter p h (x ∷ l) = go (eqb x h) (p x) (p h) refl refl refl (occurs_filter p h l)
  where
    go : (e a b : Bool) → eqb x h ≡ e → p x ≡ a → p h ≡ b → occurs h (filter_by p l) ≡ (if p h then occurs h l else 0)
        → occurs h (if a then x ∷ filter_by p l else filter_by p l) ≡ (if b then bit e + occurs h l else 0)
    go true true true ee ea eb ih = rw (ee, ih, eb)
    go true true false ee ea eb ih =
        let z : ◌≡◌ {A = Bool} true false = sym ea ∙ ap p (eqb-true x h ee) ∙ eb in
        impossible (cc)
    go true false true ee ea eb ih =
        let z : ◌≡◌ {A = Bool} true false = sym eb ∙ ap p (sym (eqb-true x h ee)) ∙ ea in
        impossible (cc)
    go true false false ee ea eb ih = ih ∙ rw eb
    go false true b ee ea eb ih = rw (ee, ih, eb) (none b)
      where
        none : (b : Bool) → 0 + (if b then occurs h l else 0) ≡ (if b then 0 + occurs h l else 0)
        none true = refl
        none false = refl
    go false false true ee ea eb ih = ih ∙ rw eb (omega arith)
    go false false false ee ea eb ih = ih ∙ rw eb

pub occurs_snoc : (h g : ℕ) (l : List ℕ) → occurs h (l ++ (g ∷ [])) ≡ occurs h l + bit (eqb g h)
unfolding count
occurs_snoc h g l = let k = count-append (λ (x : ℕ). eqb x h) l (g ∷ []) in omega arith

-- one number among the first n
total_one : (x n : ℕ) → total (λ h. bit (eqb x h)) n ≡ bit (ltb x n)
unfolding total
total_one x zero = rw (le-ltb x 0 (omega arith))
total_one x (suc n) = go (eqb x n) refl (total_one x n)
  where
    go : (e : Bool) → eqb x n ≡ e → total (λ h. bit (eqb x h)) n ≡ bit (ltb x n)
        → total (λ h. bit (eqb x h)) n + bit e ≡ bit (ltb x (suc n))
    go true ee ih = last (ltb x n) (ltb x (suc n)) refl refl
      where
        last : (a b : Bool) → ltb x n ≡ a → ltb x (suc n) ≡ b → total (λ h. bit (eqb x h)) n + 1 ≡ bit b
        last true b ea eb = let q = eqb-true x n ee in let k = ltb-true x n ea in absurd (omega arith)
        last false true ea eb = rw (ih, ea)
        last false false ea eb = let q = eqb-true x n ee in let k = ltb-false x (suc n) eb in absurd (omega arith)
    go false ee ih = last (ltb x n) (ltb x (suc n)) refl refl
      where
        last : (a b : Bool) → ltb x n ≡ a → ltb x (suc n) ≡ b → total (λ h. bit (eqb x h)) n + 0 ≡ bit b
        last true true ea eb = rw (ih, ea)
        last true false ea eb = let k = ltb-true x n ea in let m = ltb-false x (suc n) eb in absurd (omega arith)
        last false true ea eb =
            let q = eqb-false x n ee in
            let k = ltb-false x n ea in
            let m = ltb-true x (suc n) eb in
            absurd (q (omega arith))
        last false false ea eb = rw (ih, ea)

-- where all elements are below n, the occurrences of the numbers below n come to the length
pub length-total : (n : ℕ) (l : List ℕ) → ((h : ℕ) → n ≤ h → occurs h l ≡ 0) → total (λ h. occurs h l) n ≡ length l
unfolding count
length-total n [] z = total_zero n
length-total n (x ∷ l) z = go (ltb x n) refl (length-total n l)
  where
    rest : (h : ℕ) → n ≤ h → occurs h l ≡ 0
    rest h k = let e = z h k in omega arith

    go : (b : Bool) → ltb x n ≡ b → (((h : ℕ) → n ≤ h → occurs h l ≡ 0) → total (λ h. occurs h l) n ≡ length l)
        → total (λ h. bit (eqb x h) + occurs h l) n ≡ suc (length l)
    go true t ih' =
        let a = total_add (λ (h : ℕ). bit (eqb x h)) (λ (h : ℕ). occurs h l) n in
        let b = total_one x n in
        let c : bit (ltb x n) ≡ 1 = rw t in
        let ih = ih' rest in
        omega arith
    go false t ih' =
        let e = z x (ltb-false x n t) in
        let c : bit (eqb x x) ≡ 1 = rw (eq-eqb x x refl) in
        absurd (omega arith)

-- a count that passes over one of n places is below n
pub total_hole : (t : ℕ → Bool) (n g : ℕ) → g < n → t g ≡ false → total (λ i. bit (t i)) n < n
unfolding total
total_hole t zero g h e = absurd (omega arith)
total_hole t (suc n) g h e = go (eqb g n) refl (λ k. total_hole t n g k e)
  where
    go : (b : Bool) → eqb g n ≡ b → (g < n → total (λ i. bit (t i)) n < n)
        → total (λ i. bit (t i)) n + bit (t n) < suc n
    go true eb ih =
        let q = eqb-true g n eb in
        let z : bit (t n) ≡ 0 = rw (← q, e) in
        let k = total_bits t n in
        omega arith
    go false eb ih =
        let q = eqb-false g n eb in
        let k = ih (omega arith) in
        let b = bit_le (t n) in
        omega arith

-- Marks: a loop marks the first n numbers in a blank array. Where no number from n on passes, these are the marks of
-- all, and a mark says whether its number passes. A mark is 1 or 0, or true or false.
-- Assumes nothing.
use mathlib.Core.Path.{◌≡◌, refl, sym, ap, ◌∙◌}
use mathlib.Core.Bool.{Bool, true, false, not}
use mathlib.Core.List.{List, [], ◌∷◌, ◌++◌, append_assoc, append-nil}
use Prim.Native.Nat.{ℕ, zero, suc, ◌+◌, ◌≤◌, ◌<◌}
use native.Mathlib.Nat.{add-zero}
use native.Mathlib.Omega.{arith}
use borrow.Author.Tests.{ltb-true, ltb-false, eqb-true, eqb-false}
use lib.Dec.{eqb, ltb}
use lib.ListN.{length, get_or, set, replicate, get_or-eq_default}
use lib.Seq.{get_or-set_same, get_or-set_other}
use Rattle.loops.specs.Cases.{bit}
use Rattle.loops.specs.Passes.{up_to, marks_of}
use Rattle.loops.proofs.Fill.{at-up_to, length-up_to}

-- a rule that gives 0 from n on
zeros_on : (f : ℕ → ℕ) (n k : ℕ) → ((j : ℕ) → n ≤ j → f j ≡ 0) → up_to f n ++ replicate k 0 ≡ up_to f (n + k)
unfolding up_to
zeros_on f n zero h = rw add-zero (append-nil (up_to f n))
zeros_on f n (suc k) h =
    let e : n + suc k ≡ suc n + k = omega arith in
    ap (λ (x : ℕ). up_to f n ++ (x ∷ replicate k 0)) (sym (h n (omega arith)))
    ∙ sym (append_assoc (up_to f n) (f n ∷ []) (replicate k 0))
    ∙ zeros_on f (suc n) k (λ j l. h j (omega arith))
    ∙ ap (up_to f) (sym e)

-- no number of a byte is past the marks
pub room : (i : ℕ) → i < 256 → i < length {A = ℕ} (replicate 256 0)
room i h = let l : 256 ≡ length {A = ℕ} (replicate 256 0) = refl in omega (arith, l)

not_zero : (b : Bool) → eqb (bit b) 0 ≡ not b
not_zero true = refl
not_zero false = refl

twice : (b : Bool) → not (not b) ≡ b
twice true = refl
twice false = refl

module _ (p : ℕ → Bool) (n : ℕ) (none-on : (i : ℕ) → n ≤ i → p i ≡ false) where
  -- the loop's end; k numbers were not looked at
  pub marks_end : (k : ℕ) → n + k ≡ 256 → (out : List ℕ)
      → out ≡ up_to (λ i. bit (p i)) n ++ replicate k 0 → out ≡ marks_of p
  unfolding marks_of
  marks_end k e out o =
      o ∙ zeros_on (λ (i : ℕ). bit (p i)) n k (λ i h. ap bit (none-on i h)) ∙ ap (up_to (λ (i : ℕ). bit (p i))) e

  pub no_mark : n ≤ 256 → (i : ℕ) → eqb (get_or (marks_of p) i 0) 0 ≡ not (p i)
  unfolding marks_of
  no_mark few i = go (ltb i 256) refl
    where
      go : (b : Bool) → ltb i 256 ≡ b → eqb (get_or (marks_of p) i 0) 0 ≡ not (p i)
      go true t = rw (at-up_to (λ (i : ℕ). bit (p i)) 0 256 i (ltb-true _ _ t)) (not_zero (p i))
      go false t =
          let h : 256 ≤ i = ltb-false i 256 t in
          let l = length-up_to (λ (i : ℕ). bit (p i)) 256 in
          rw (get_or-eq_default (marks_of p) 0 {n = i} (omega arith), none-on i (omega arith))

  pub a_mark : n ≤ 256 → (i : ℕ) → not (eqb (get_or (marks_of p) i 0) 0) ≡ p i
  a_mark few i = ap not (no_mark few i) ∙ twice (p i)

-- a turn of the loop that marks by true and false: what stands below its place, and from its place on
pub mark_below : (f : ℕ → Bool) (out : List Bool) (c : ℕ) (v : Bool) → c < length out → v ≡ f c
    → ((k : ℕ) → k < c → get_or out k false ≡ f k) → (k : ℕ) → k < c + 1 → get_or (set out c v) k false ≡ f k
mark_below f out c v h e m k s = go (eqb k c) refl
  where
    go : (t : Bool) → eqb k c ≡ t → get_or (set out c v) k false ≡ f k
    go true t = rw (eqb-true k c t, get_or-set_same out c v false h) e
    go false t = let d = eqb-false k c t in rw (get_or-set_other out c k v false d) (m k (omega (arith, d)))

pub mark_above : (out : List Bool) (c : ℕ) (v : Bool) → ((k : ℕ) → c ≤ k → get_or out k false ≡ false)
    → (k : ℕ) → c + 1 ≤ k → get_or (set out c v) k false ≡ false
mark_above out c v m k s =
    let d : k ≡ c → ⊥ = λ e. absurd (omega arith) in
    rw (get_or-set_other out c k v false d) (m k (omega arith))

-- Laws about the order: what is in its record, and one generator more.
-- Assumes nothing.
use mathlib.Core.Path.{◌≡◌, refl, sym, ap, ◌∙◌}
use mathlib.Core.Bool.{Bool, true, false, not}
use mathlib.Core.List.{List, [], ◌∷◌, ◌++◌}
use Prim.Native.Nat.{ℕ, ◌+◌, ◌≤◌, ◌<◌}
use native.Mathlib.Omega.{arith}
use borrow.Author.Tests.{ltb-true, ltb-false, eqb-true, eqb-false}
use lib.Dec.{eqb, ltb}
use lib.ListN.{length, get_or, set, take, replicate, length-append}
use lib.Seq.{take_all, take-append-le, length-take-le, set-set, set_out, get_or-set_same, get_or-set_other}
use Rattle.loops.specs.Cases.{bit, at_most}
use Rattle.loops.specs.Passes.{filter_by, padded}
use Rattle.loops.proofs.Padded.{padded_push, padded-blank, length-padded, padded-take}
use Rattle.loops.proofs.Padded.{padded-full, at_most_le, take-at_most, length-at_most, blank}
use Rattle.loops.proofs.Marks.{room}
use Rattle.loops.proofs.Compact.{kept, kept_few, kept-count, kept_next}
use Rattle.loops.proofs.Search.{filter-length, filter_no}
use Rattle.ages.specs.declared.Ages.{Ages}
use Rattle.ages.specs.Ages.{oldest_first, ages_of, unmarked, pushed, other_than}

-- the record of at most 64 numbers has them in their order
pub order_of_lem : (l : List ℕ) → length l ≤ 64 → oldest_first (ages_of l) ≡ l
unfolding ages_of
order_of_lem l h = rw (take_all 64 l h) (padded-take 0 64 l h)

-- a number pushed to the record of a list is pushed to the list
pub push_of : (l : List ℕ) (g : ℕ) → pushed (ages_of l) g ≡ ages_of (l ++ (g ∷ []))
unfolding ages_of pushed
push_of l g = go (ltb (length l) 64) refl
  where
    go : (b : Bool) → ltb (length l) 64 ≡ b → pushed (ages_of l) g ≡ ages_of (l ++ (g ∷ []))
    go true t =
        let h : length l < 64 = ltb-true _ _ t in
        let a : take 64 l ≡ l = take_all 64 l (omega arith) in
        let k = length-append l (g ∷ []) in
        let b : take 64 (l ++ (g ∷ [])) ≡ l ++ (g ∷ []) = take_all 64 (l ++ (g ∷ [])) (omega arith) in
        rw (a, b, t, padded_push 0 64 l g h, length-append l (g ∷ []))
    go false t =
        let h : 64 ≤ length l = ltb-false _ _ t in
        let a : length (take 64 l) ≡ 64 = length-take-le 64 l h in
        let b : take 64 (l ++ (g ∷ [])) ≡ take 64 l = take-append-le 64 l (g ∷ []) h in
        rw (b, a, padded-full 0 64 l (g ∷ []) h)

-- a mark for generator g alone
pub one_marked : (g : ℕ) → g < 256 → (h : ℕ) → unmarked (set (replicate 256 0) g 1) h ≡ other_than g h
one_marked g k h = go (eqb h g) refl
  where
    go : (b : Bool) → eqb h g ≡ b → unmarked (set (replicate 256 0) g 1) h ≡ not b
    go true t = rw (eqb-true h g t, get_or-set_same {A = ℕ} (replicate 256 0) g 1 0 (room g k))
    go false t = rw (get_or-set_other {A = ℕ} (replicate 256 0) g h 1 0 (eqb-false h g t), blank {A = ℕ} 0 256 h)

-- the end of a loop that keeps those that pass: what was kept is the order of those
pub kept_end : (p : ℕ → Bool) (a : Ages) (i m : ℕ) (out : List ℕ)
    → length a.generator ≡ 64 → i ≡ at_most 64 a.count
    → m ≡ length (kept p 0 64 a.generator i) → out ≡ padded 64 0 (kept p 0 64 a.generator i)
    → record { count = m; generator = out } ≡ ages_of (filter_by p (oldest_first a))
unfolding ages_of
kept_end p a i m out g e q o =
    let t : take i a.generator ≡ oldest_first a = rw e (take-at_most 64 a.count a.generator g) in
    let s = length-at_most 64 a.count a.generator g in
    let u : length (oldest_first a) ≡ i = omega arith in
    let k = filter-length p (oldest_first a) in
    let b = at_most_le 64 a.count in
    rw (q, o, t, take_all 64 (filter_by p (oldest_first a)) (omega arith))

-- A loop that puts each number behind those kept, whether it stays or not: up to the number at m, which may not stay,
-- the array holds what is kept.
module _ (p : ℕ → Bool) (l : List ℕ) where
  -- a turn
  pub loose_next : (i m : ℕ) (out : List ℕ) → i < length l → i < 64
      → m ≡ length (kept p 0 64 l i) → set out m 0 ≡ padded 64 0 (kept p 0 64 l i)
      → set (set out m (get_or l i 0)) (m + bit (p (get_or l i 0))) 0 ≡ padded 64 0 (kept p 0 64 l (i + 1))
  loose_next i m out h k e o = go (p (get_or l i 0)) refl
    where
      few : length (kept p 0 64 l i) < 64
      few = let a = kept_few p 0 64 l i (omega arith) in omega arith

      blank : (m : List ℕ) (b : Bool) → ltb (length m) 64 ≡ b → set (padded 64 0 m) (length m) 0 ≡ padded 64 0 m
      blank m true t = padded-blank 0 64 m (ltb-true _ _ t)
      blank m false t =
          let a = length-padded 0 64 m in
          let f : 64 ≤ length m = ltb-false _ _ t in
          set_out (padded 64 0 m) (length m) 0 (omega arith)

      go : (b : Bool) → p (get_or l i 0) ≡ b
          → set (set out m (get_or l i 0)) (m + bit b) 0 ≡ padded 64 0 (kept p 0 64 l (i + 1))
      go true t =
          let c : m + 1 ≡ length (kept p 0 64 l (i + 1)) =
          kept-count p 0 64 l i m (padded 64 0 (kept p 0 64 l i)) true h k t e refl in
          let q : set out m (get_or l i 0) ≡ padded 64 0 (kept p 0 64 l (i + 1)) =
          sym (set-set out m 0 (get_or l i 0)) ∙ ap (λ (r : List ℕ). set r m (get_or l i 0)) o
          ∙ kept_next p 0 64 l i m (padded 64 0 (kept p 0 64 l i)) true h k t e refl in
          rw (q, c) (blank (kept p 0 64 l (i + 1)) (ltb (length (kept p 0 64 l (i + 1))) 64) refl)
      go false t =
          let c : m + 0 ≡ m = omega arith in
          rw c (set-set out m (get_or l i 0) 0 ∙ o ∙ ap (padded 64 0) (sym (filter_no p 0 l i h t)))

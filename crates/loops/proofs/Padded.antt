-- A list in an array that has room for more: its elements stand first, and the next one goes to the place after them.
-- Assumes nothing.
use mathlib.Core.Path.{◌≡◌, refl, sym, ap, ◌∙◌}
use mathlib.Core.List.{List, [], ◌∷◌, ◌++◌, append_assoc}
use Prim.Native.Nat.{ℕ, zero, suc, ◌+◌, ◌-◌, ◌≤◌, ◌<◌}
use native.Mathlib.Omega.{arith}
use lib.ListN.{length, take, set, get_or, replicate, length-append, length-replicate, replicate-append-replicate}
use borrow.Author.Tests.{ltb-true, ltb-false}
use lib.Dec.{ltb}
use lib.Seq.{take-append-add, take-append-le, take_at, set_at, length-take-le, take_all}
use mathlib.Core.Bool.{Bool, true, false}
use Rattle.loops.specs.Cases.{at_most}
use Rattle.loops.specs.Passes.{padded}

module _ {A : Type 0} (z : A) where
  -- every element of a blank array is blank, past its end too
  pub blank : (n i : ℕ) → get_or (replicate n z) i z ≡ z
  blank zero i = refl
  blank (suc n) zero = refl
  blank (suc n) (suc i) = blank n i

  take-replicate : (k n : ℕ) → k ≤ n → take k (replicate n z) ≡ replicate k z
  take-replicate k n h =
      let e : n ≡ k + (n - k) = omega arith in
      rw e (ap (λ (l : List A). take k l) (sym (replicate-append-replicate k (n - k) z))
      ∙ take_at (replicate k z) (replicate (n - k) z) k (length-replicate k z))

  -- the list, and what is left of the places
  pub padded_form : (n k : ℕ) (l : List A) → length l + k ≡ n → padded n z l ≡ l ++ replicate k z
  unfolding padded
  padded_form n k l e =
      ap (λ (m : ℕ). take m (l ++ replicate n z)) (sym e)
      ∙ take-append-add l (replicate n z) k
      ∙ ap (λ (r : List A). l ++ r) (take-replicate k n (omega arith))

  pub length-padded : (n : ℕ) (l : List A) → length (padded n z l) ≡ n
  unfolding padded
  length-padded n l =
      let a = length-append l (replicate n z) in
      let b = length-replicate n z in
      length-take-le n (l ++ replicate n z) (omega arith)

  pub padded-take : (n : ℕ) (l : List A) → length l ≤ n → take (length l) (padded n z l) ≡ l
  padded-take n l h =
      rw (padded_form n (n - length l) l (omega arith)) (take_at l (replicate (n - length l) z) (length l) refl)

  -- one element more
  pub padded_push : (n : ℕ) (l : List A) (x : A) → length l < n
      → set (padded n z l) (length l) x ≡ padded n z (l ++ (x ∷ []))
  padded_push n l x h =
      let k = n - length l - 1 in
      let m = length-append l (x ∷ []) in
      rw (padded_form n (suc k) l (omega arith), padded_form n k (l ++ (x ∷ [])) (omega arith))
      (set_at l z (replicate k z) x (length l) refl ∙ sym (append_assoc l (x ∷ []) (replicate k z)))

  -- a blank put after the list changes nothing
  pub padded-blank : (n : ℕ) (l : List A) → length l < n → set (padded n z l) (length l) z ≡ padded n z l
  padded-blank n l h =
      let k = n - length l - 1 in
      rw (padded_form n (suc k) l (omega arith)) (set_at l z (replicate k z) z (length l) refl)

-- a list that fills the array leaves no place for more
pub padded-full : {A : Type 0} (z : A) (n : ℕ) (l m : List A) → n ≤ length l → padded n z (l ++ m) ≡ padded n z l
unfolding padded
padded-full z n l m h =
    ap (λ r. take n r) (append_assoc l m (replicate n z))
    ∙ take-append-le n l (m ++ replicate n z) h
    ∙ sym (take-append-le n l (replicate n z) h)

pub at_most_le : (m n : ℕ) → at_most m n ≤ m
at_most_le m n = omega arith

-- the first n elements of an array of m places, where n may be above m
pub take-at_most : {A : Type 0} (m n : ℕ) (l : List A) → length l ≡ m → take (at_most m n) l ≡ take n l
take-at_most m n l e = go (ltb n m) refl
  where
    go : (b : Bool) → ltb n m ≡ b → take (at_most m n) l ≡ take n l
    go true t = let h = ltb-true n m t in ap (λ (k : ℕ). take k l) (omega arith)
    go false t = let h = ltb-false n m t in take_all (at_most m n) l (omega arith) ∙ sym (take_all n l (omega arith))

pub length-at_most : {A : Type 0} (m n : ℕ) (l : List A) → length l ≡ m → length (take n l) ≡ at_most m n
length-at_most m n l e = go (ltb n m) refl
  where
    go : (b : Bool) → ltb n m ≡ b → length (take n l) ≡ at_most m n
    go true t = let h = ltb-true n m t in length-take-le n l (omega arith) ∙ omega arith
    go false t = let h = ltb-false n m t in ap length (take_all n l (omega arith)) ∙ omega arith

-- A loop that looks for the first element that passes, or keeps those that pass: at turn i the answer for the rest of
-- the list is the answer for the whole, or what is kept is what passes among the first i.
-- Assumes nothing.
use Rattle.std.specs.Prelude.{if◌then◌else◌}
use mathlib.Core.Path.{◌≡◌, refl, sym, ap, ◌∙◌}
use mathlib.Core.Bool.{Bool, true, false, false≢true}
use mathlib.Core.List.{List, [], ◌∷◌, ◌++◌, append-nil}
use mathlib.Core.Option.{Option, some, none}
use Prim.Native.Nat.{ℕ, ◌+◌, ◌≤◌, ◌<◌}
use native.Mathlib.Numerals.{add-one}
use native.Mathlib.Omega.{arith}
use lib.ListN.{length, take, drop, get_or, drop_of_length-le}
use lib.Seq.{drop-cons, take-suc}
use Rattle.loops.specs.Passes.{filter_by, first_of, count}

module _ {A : Type 0} (p : A → Bool) where
  -- the element at the loop's place passes: it is the answer
  pub first_yes : (d : A) (l : List A) (i : ℕ) (r : Option A) → i < length l
      → first_of p (drop i l) ≡ r → p (get_or l i d) ≡ true → some (get_or l i d) ≡ r
  unfolding first_of
  first_yes d l i r h e t = rw (drop-cons l i d h, t) at e

  -- it does not: the answer is in the rest
  pub first_no : (d : A) (l : List A) (i : ℕ) (r : Option A) → i < length l
      → first_of p (drop i l) ≡ r → p (get_or l i d) ≡ false → first_of p (drop (i + 1) l) ≡ r
  unfolding first_of
  first_no d l i r h e t = rw add-one (rw (drop-cons l i d h, t) at e)

  -- nothing is left
  pub first_end : (l : List A) (i : ℕ) (r : Option A) → length l ≤ i → first_of p (drop i l) ≡ r → none ≡ r
  unfolding first_of
  first_end l i r h e = rw (drop_of_length-le l h) at e

  pub filter-append : (l m : List A) → filter_by p (l ++ m) ≡ filter_by p l ++ filter_by p m
  unfolding filter_by
  filter-append [] m = refl
  filter-append (x ∷ l) m = go (p x) (filter-append l m)
    where
      go : (b : Bool) → filter_by p (l ++ m) ≡ filter_by p l ++ filter_by p m
          → (if b then x ∷ filter_by p (l ++ m) else filter_by p (l ++ m))
          ≡ (if b then x ∷ filter_by p l else filter_by p l) ++ filter_by p m
      go true ih = ap (λ (r : List A). x ∷ r) ih
      go false ih = ih

  pub filter-length : (l : List A) → length (filter_by p l) ≤ length l
  unfolding filter_by
  filter-length [] = omega arith
  filter-length (x ∷ l) = go (p x) (filter-length l)
    where
      go : (b : Bool) → length (filter_by p l) ≤ length l
          → length (if b then x ∷ filter_by p l else filter_by p l) ≤ length (x ∷ l)
      go true ih = omega arith
      go false ih = omega arith

  -- the element at the loop's place is kept
  pub filter_yes : (d : A) (l : List A) (i : ℕ) → i < length l → p (get_or l i d) ≡ true
      → filter_by p (take (i + 1) l) ≡ filter_by p (take i l) ++ (get_or l i d ∷ [])
  unfolding filter_by
  filter_yes d l i h t = rw (add-one, take-suc l i d h) (filter-append (take i l) (get_or l i d ∷ []) ∙ rw t)

  -- it is passed over
  pub filter_no : (d : A) (l : List A) (i : ℕ) → i < length l
      → p (get_or l i d) ≡ false → filter_by p (take (i + 1) l) ≡ filter_by p (take i l)
  unfolding filter_by
  filter_no d l i h t = rw (add-one, take-suc l i d h)
      (filter-append (take i l) (get_or l i d ∷ []) ∙ rw t (append-nil (filter_by p (take i l))))

  pub count-append : (l m : List A) → count p (l ++ m) ≡ count p l + count p m
  unfolding count
  count-append [] m = omega arith
  count-append (x ∷ l) m = let k = count-append l m in omega arith

-- two tests one after the other are one
pub filter-filter : {A : Type 0} (p q r : A → Bool) (l : List A)
    → ((x : A) → (if q x then p x else false) ≡ r x) → filter_by p (filter_by q l) ≡ filter_by r l
unfolding filter_by
filter-filter p q r [] h = refl
filter-filter {A} p q r (x ∷ l) h = go (q x) (p x) (r x) refl refl refl (h x) (filter-filter p q r l h)
  where
    go : (a b c : Bool) → q x ≡ a → p x ≡ b → r x ≡ c
        → (if a then b else false) ≡ c → filter_by p (filter_by q l) ≡ filter_by r l
        → filter_by p (if a then x ∷ filter_by q l else filter_by q l) ≡ (if c then x ∷ filter_by r l else filter_by r l)
    go true true c eq ep er e ih = rw (← e, ep) (ap (λ (m : List A). x ∷ m) ih)
    go true false c eq ep er e ih = rw (← e, ep) ih
    go false b c eq ep er e ih = rw (← e) ih

-- tests that agree keep the same
pub filter_same : {A : Type 0} (p q : A → Bool) (l : List A) → ((x : A) → p x ≡ q x) → filter_by p l ≡ filter_by q l
unfolding filter_by
filter_same p q [] h = refl
filter_same p q (x ∷ l) h = rw (h x, filter_same p q l h)

-- nothing passes: nothing is found
pub first_none : {A : Type 0} (p : A → Bool) → ((x : A) → p x ≡ false) → (l : List A) → first_of p l ≡ none
unfolding first_of
first_none p h [] = refl
first_none p h (x ∷ l) = rw (h x) (first_none p h l)

-- tests that agree find the same
pub first-same : {A : Type 0} (p q : A → Bool) → ((x : A) → p x ≡ q x) → (l : List A) → first_of p l ≡ first_of q l
unfolding first_of
first-same p q h [] = refl
first-same p q h (x ∷ l) = rw (h x, first-same p q h l)

-- what is kept has all that is looked for: the search may pass over the rest
pub first-among : {A : Type 0} (p q : A → Bool) → ((x : A) → p x ≡ true → q x ≡ true)
    → (l : List A) → first_of p (filter_by q l) ≡ first_of p l
unfolding first_of filter_by
first-among p q h [] = refl
first-among p q h (x ∷ l) = go (q x) (p x) refl refl (first-among p q h l)
  where
    go : (a b : Bool) → q x ≡ a → p x ≡ b → first_of p (filter_by q l) ≡ first_of p l
        → first_of p (if a then x ∷ filter_by q l else filter_by q l) ≡ (if b then some x else first_of p l)
    go true true e f ih = rw f
    go true false e f ih = rw f ih
    go false true e f ih = absurd (false≢true (sym e ∙ h x f))
    go false false e f ih = ih

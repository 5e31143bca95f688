-- A loop that makes an array by a rule: at turn i the first i elements are those of the rule, and the others are as
-- they were.
-- Assumes nothing.
use mathlib.Core.Path.{◌≡◌, refl, sym, ap, ◌∙◌, subst}
use mathlib.Core.Bool.{Bool, true, false}
use mathlib.Core.List.{List, [], ◌∷◌, ◌++◌, append_assoc, append-nil}
use Prim.Native.Nat.{ℕ, zero, suc, ◌+◌, ◌≤◌, ◌<◌}
use native.Mathlib.Numerals.{add-one}
use native.Mathlib.Omega.{arith}
use borrow.Author.Tests.{eqb-true, eqb-false}
use lib.Dec.{eqb}
use lib.ListN.{length, drop, set, get_or, length-append, drop_of_length-le, get_or-append}
use lib.Seq.{drop-cons, set_at, get_or-append_seam, ext_get_or}
use denote.Param.Members.{Mut, Called}
use Rattle.std.specs.Array.{IsFromFnResult, IsFromFnResultFrom}
use Rattle.std.specs.List.{range_with_len}
use mathlib.Core.List.{map}
use Rattle.std.proofs.lemmas.List.FromFn.{map-range_with_len_more}
use Rattle.loops.specs.Passes.{up_to}

module _ {A : Type 0} (f : ℕ → A) where
  pub length-up_to : (n : ℕ) → length (up_to f n) ≡ n
  unfolding up_to
  length-up_to zero = refl
  length-up_to (suc n) = length-append (up_to f n) (f n ∷ []) ∙ ap (λ (k : ℕ). k + 1) (length-up_to n) ∙ add-one n

  -- the element at a place
  pub at-up_to : (d : A) (n j : ℕ) → j < n → get_or (up_to f n) j d ≡ f j
  unfolding up_to
  at-up_to d zero j h = absurd (omega arith)
  at-up_to d (suc n) j h = go (eqb j n) refl (λ k. at-up_to d n j k)
    where
      go : (b : Bool) → eqb j n ≡ b → (j < n → get_or (up_to f n) j d ≡ f j) → get_or (up_to f n ++ (f n ∷ [])) j d ≡ f j
      go true e ih =
          let k : j ≡ n = eqb-true j n e in
          ap (λ (m : ℕ). get_or (up_to f n ++ (f n ∷ [])) m d) (k ∙ sym (length-up_to n))
          ∙ get_or-append_seam (up_to f n) (f n) [] d ∙ ap f (sym k)
      go false e ih =
          let s = eqb-false j n e in
          let l = length-up_to n in
          get_or-append (up_to f n) (f n ∷ []) d j (omega arith) ∙ ih (omega arith)

  -- a turn of the loop
  pub fill_next : (d : A) (old out : List A) (i : ℕ) (v : A) → i < length old
      → out ≡ up_to f i ++ drop i old → v ≡ f i → set out i v ≡ up_to f (i + 1) ++ drop (i + 1) old
  unfolding up_to
  fill_next d old out i v h p q =
      rw (p, q)
      (ap (λ (l : List A). set (up_to f i ++ l) i (f i)) (drop-cons old i d h)
      ∙ set_at (up_to f i) _ (drop (suc i) old) (f i) i (length-up_to i)
      ∙ sym (append_assoc (up_to f i) (f i ∷ []) (drop (suc i) old))
      ∙ ap (λ (k : ℕ). up_to f k ++ drop k old) (sym (add-one i)))

  -- the loop's end
  pub fill_end : (old out : List A) (i n : ℕ) → i ≡ n → length old ≤ n → out ≡ up_to f i ++ drop i old → out ≡ up_to f n
  fill_end old out i n e h p = p ∙ rw (e, drop_of_length-le old h) (append-nil (up_to f n))

  -- the rule is the list's own element: nothing changes
  pub up_to_list : (d : A) (l : List A) (n : ℕ) → length l ≡ n → ((i : ℕ) → i < n → f i ≡ get_or l i d) → up_to f n ≡ l
  up_to_list d l n e h =
      let k = length-up_to n in
      ext_get_or d (up_to f n) l (k ∙ sym e) (λ i s. at-up_to d n i (omega arith) ∙ h i (omega arith))

-- two rules that agree make the same array
pub up_to-same : {A : Type 0} (f g : ℕ → A) (n : ℕ) → ((i : ℕ) → i < n → f i ≡ g i) → up_to f n ≡ up_to g n
unfolding up_to
up_to-same f g zero h = refl
up_to-same f g (suc n) h = rw (up_to-same f g n (λ i k. h i (omega arith)), h n (omega arith))

-- the same array in std's words
pub up_to_range : {A : Type 0} (f : ℕ → A) (n : ℕ) → up_to f n ≡ map f (range_with_len 0 n)
unfolding up_to
up_to_range f zero = refl
up_to_range f (suc n) =
    ap (λ (l : List _). l ++ (f n ∷ [])) (up_to_range f n)
    ∙ sym (map-range_with_len_more f 0 n n (omega arith))
    ∙ ap (λ (k : ℕ). map f (range_with_len 0 k)) (add-one n)

-- what `array::from_fn` makes, of a closure that computes the rule and keeps what it holds
module _ {F A : Type 0} (g : Mut F (ℕ × Unit {0}) A) (c : F) (f : ℕ → A)
    (computes : (i : ℕ) (y : A) (q : F) → Called g c (i, tt) y q → (q ≡ c) × (y ≡ f i)) where
  made-from : (d : A) (out : List A) (n i : ℕ) → IsFromFnResultFrom g c out i n
      → (j : ℕ) → i ≤ j → j < i + n → get_or out j d ≡ f j
  made-from d out zero i made j l h = absurd (omega arith)
  made-from d out (suc n) i (q, y, at, called, rest) j l h =
      let known = computes i y q called in
      go (eqb i j) refl known.1
      (made-from d out n (i + 1) (subst (λ (r : F). IsFromFnResultFrom g r out (i + 1) n) known.0 rest) j)
    where
      go : (b : Bool) → eqb i j ≡ b → y ≡ f i → (i + 1 ≤ j → j < i + 1 + n → get_or out j d ≡ f j) → get_or out j d ≡ f j
      go true e v ih =
          let k = eqb-true i j e in
          ap (λ (m : ℕ). get_or out m d) (sym k) ∙ at.1 d ∙ v ∙ ap f k
      go false e v ih = let s = eqb-false i j e in ih (omega (arith, s)) (omega arith)

  pub made_up_to : (d : A) (out : List A) (n : ℕ) → IsFromFnResult g c out n → out ≡ up_to f n
  made_up_to d out n made =
      let e = length-up_to f n in
      ext_get_or d out (up_to f n) (made.long ∙ sym e)
      (λ i s. let l = made.long in made-from d out n 0 made.each i (omega arith) (omega arith) ∙ sym (at-up_to f d n i (omega arith)))

-- However an input is cut into reads, its bytes are answered the same: the answers to two parts, one after the other,
-- are those to the whole.
-- Assumes nothing.
use Prim.Native.Nat.{ℕ, ◌+◌, ◌<◌}
use mathlib.Core.Path.{◌≡◌, refl, sym, ◌∙◌}
use mathlib.Core.Bool.{false}
use mathlib.Core.List.{List, [], ◌∷◌, ◌++◌, append-nil, append_assoc}
use native.Mathlib.Numerals.{add-one}
use lib.Dec.{eqb}
use lib.ListN.{length, take, get_or}
use lib.Seq.{take-suc}
use Rattle.fields.specs.declared.Line.{Line}
use Rattle.fields.specs.Line.{new_line, read, after, after_all}
use Rattle.fields.specs.Answers.{answer_by, answers_by, end_answer_by, all_answers_by}

pub after_parts : (c : Line) (xs ys : List ℕ) → after_all c (xs ++ ys) ≡ after_all (after_all c xs) ys
unfolding after_all
after_parts c [] ys = refl
after_parts c (x ∷ xs) ys = after_parts (after c x) xs ys

pub next-after : (c : Line) (bs : List ℕ) (i : ℕ) → i < length bs
    → after_all c (take (i + 1) bs) ≡ after (after_all c (take i bs)) (get_or bs i 0)
unfolding after_all
next-after c bs i h = rw (add-one i, take-suc bs i 0 h) (after_parts c (take i bs) (get_or bs i 0 ∷ []))

-- what the rest of an input is answered, from a line on that is read so far
unfoldable pub from : (Line → List ℕ) → Line → List ℕ → List ℕ
from ended c bs = answers_by ended c bs ++ end_answer_by ended (after_all c bs)

module _ (ended : Line → List ℕ) where
  pub answers_parts : (c : Line) (xs ys : List ℕ)
      → answers_by ended c (xs ++ ys) ≡ answers_by ended c xs ++ answers_by ended (after_all c xs) ys
  unfolding answers_by after_all
  answers_parts c [] ys = refl
  answers_parts c (x ∷ xs) ys =
      rw (answers_parts (after c x) xs ys)
      (sym (append_assoc (answer_by ended c x) (answers_by ended (after c x) xs)
      (answers_by ended (after_all (after c x) xs) ys)))

  pub next-answered : (c : Line) (bs : List ℕ) (i : ℕ) → i < length bs
      → answers_by ended c (take (i + 1) bs)
      ≡ answers_by ended c (take i bs) ++ answer_by ended (after_all c (take i bs)) (get_or bs i 0)
  unfolding answers_by
  next-answered c bs i h =
      rw (add-one i, take-suc bs i 0 h)
      (answers_parts c (take i bs) (get_or bs i 0 ∷ [])
      ∙ rw (append-nil (answer_by ended (after_all c (take i bs)) (get_or bs i 0))))

  pub from_parts : (c : Line) (xs ys : List ℕ)
      → from ended c (xs ++ ys) ≡ answers_by ended c xs ++ from ended (after_all c xs) ys
  unfolding from
  from_parts c xs ys =
      rw (answers_parts c xs ys, after_parts c xs ys)
      (append_assoc (answers_by ended c xs) (answers_by ended (after_all c xs) ys)
      (end_answer_by ended (after_all (after_all c xs) ys)))

  pub from_byte : (c : Line) (b : ℕ) (bs : List ℕ) → eqb b 10 ≡ false → from ended c (b ∷ bs) ≡ from ended (read c b) bs
  unfolding from answers_by after_all answer_by after
  from_byte c b bs e = rw e

  pub from_end : (c : Line) (bs : List ℕ) → from ended c (10 ∷ bs) ≡ ended c ++ all_answers_by ended bs
  unfolding from answers_by after_all answer_by after all_answers_by
  from_end c bs = append_assoc (ended c) (answers_by ended new_line bs) (end_answer_by ended (after_all new_line bs))

  pub started : (bs : List ℕ) → all_answers_by ended bs ≡ from ended new_line bs
  unfolding all_answers_by from
  started bs = refl

  pub nothing : all_answers_by ended [] ≡ []
  unfolding all_answers_by answers_by after_all end_answer_by
  nothing = refl

  -- a line that ends the input
  pub from_last : (c : Line) → from ended c (10 ∷ []) ≡ ended c
  from_last c = from_end c [] ∙ rw nothing (append-nil (ended c))

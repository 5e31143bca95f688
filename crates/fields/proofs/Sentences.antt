-- What an input is answered, said of lines and their fields (specs/Fields) and not of bytes, whatever the answer of a
-- line is.
-- Assumes nothing.
use Rattle.std.specs.Prelude.{if◌then◌else◌}
use Prim.Native.Nat.{ℕ, ◌+◌, ◌-◌}
use mathlib.Core.Path.{◌≡◌, refl, sym, ◌∙◌}
use mathlib.Core.Bool.{Bool, true, false}
use mathlib.Core.List.{List, [], ◌∷◌, ◌++◌, append_assoc}
use native.Mathlib.Omega.{arith}
use lib.Dec.{eqb, leb}
use borrow.Author.Tests.{ne_eqb, eqb-true, leb-true}
use Rattle.loops.specs.Cases.{bit}
use Rattle.loops.specs.Passes.{count}
use Rattle.fields.specs.declared.Line.{Line}
use Rattle.fields.specs.Line.{new_line, malformed, is_digit, after_digit, is_parted}
use Rattle.fields.specs.Line.{after_comma, read, after, after_all, is_empty}
use Rattle.fields.specs.Answers.{answer_by, answers_by, end_answer_by, all_answers_by}
use Rattle.fields.specs.Fields.{is_field, are_fields, line_ends, behind, number_from}
use Rattle.fields.proofs.Parts.{from, from_parts, from_byte, from_end, from_last, started}
use Rattle.fields.proofs.Numbers.{both, at}
use Rattle.fields.proofs.Told.{Reads, told, fields_told}
use Rattle.fields.proofs.Written.{ends_parts}

-- ---- a line

-- a line is answered by its fields
pub line-told : (ended : Line → List ℕ) (commas : ℕ) (by : ℕ → ℕ → ℕ → List ℕ)
    (other : List ℕ) (reads : Reads ended commas by other) (f : List ℕ) (gs : List (List ℕ))
    → is_field f ≡ true → are_fields gs ≡ true → all_answers_by ended (f ++ behind gs) ≡ told commas by other 0 0 0 f gs
unfolding at
line-told ended commas by other reads f gs e es =
    started ended (f ++ behind gs) ∙ fields_told ended commas by other reads 0 0 0 f gs e es

-- every line has fields
pub record Cut (xs : List ℕ) : Type 0 where
  pub first : List ℕ
  pub others : List (List ℕ)
  pub is : xs ++ 10 ∷ [] ≡ first ++ behind others
  pub first_field : is_field first ≡ true
  pub other_fields : are_fields others ≡ true

no_end : (b : Bool) (n : ℕ) → bit b + n ≡ 0 → (b ≡ false) × (n ≡ 0)
no_end true n e = absurd (omega arith)
no_end false n e = (refl, omega arith)

pub cut : (xs : List ℕ) → line_ends xs ≡ 0 → Cut xs
unfolding count is_field are_fields
cut [] e = record { first = []; others = []; is = refl; first_field = refl; other_fields = refl }
cut (x ∷ xs) e = let p = no_end (eqb x 10) (line_ends xs) e in go (eqb x 44) refl p.0 (cut xs p.1)
  where
    go : (b : Bool) → eqb x 44 ≡ b → eqb x 10 ≡ false → Cut xs → Cut (x ∷ xs)
    go true q n c = record {
      first = [];
      others = c.first ∷ c.others;
      is = rw (eqb-true x 44 q, c.is);
      first_field = refl;
      other_fields = rw c.first_field c.other_fields;
    }
    go false q n c = record {
      first = x ∷ c.first;
      others = c.others;
      is = rw c.is;
      first_field = rw (q, n) c.first_field;
      other_fields = c.other_fields;
    }

-- a number is a field
pub number_field : (d : Bool) (xs : List ℕ) → number_from d xs ≡ true → is_field xs ≡ true
unfolding number_from is_field
number_field d [] e = refl
number_field d (x ∷ xs) e =
    let p = both (is_digit x) (number_from true xs) e in
    let h = leb-true 48 x (both (leb 48 x) (leb x 57) p.0).0 in
    rw (ne_eqb x 44 (λ q. omega arith), ne_eqb x 10 (λ q. omega arith)) (number_field true xs p.1)

-- ---- several lines

not_empty : (c : Line) (b : ℕ) → is_empty (read c b) ≡ false
unfolding read after_digit after_comma
not_empty c b = go (is_digit b) (is_parted c b)
  where
    go : (x y : Bool) → is_empty (if x then after_digit c (b - 48) else (if y then after_comma c else malformed)) ≡ false
    go true y = refl
    go false true = ne_eqb (c.commas + 1) 0 (λ e. omega arith)
    go false false = refl

module _ (ended : Line → List ℕ) where
  -- a line is answered whatever stood before it and whatever comes behind it
  pub lines_apart : (xs ys : List ℕ)
      → all_answers_by ended (xs ++ 10 ∷ ys) ≡ all_answers_by ended (xs ++ 10 ∷ []) ++ all_answers_by ended ys
  lines_apart xs ys =
      let c = after_all new_line xs in
      let a : all_answers_by ended (xs ++ 10 ∷ ys) ≡ answers_by ended new_line xs ++ (ended c ++ all_answers_by ended ys) =
      started ended (xs ++ 10 ∷ ys) ∙ from_parts ended new_line xs (10 ∷ ys) ∙ rw (from_end ended c ys) in
      let b : all_answers_by ended (xs ++ 10 ∷ []) ≡ answers_by ended new_line xs ++ ended c =
      started ended (xs ++ 10 ∷ []) ∙ from_parts ended new_line xs (10 ∷ []) ∙ rw (from_last ended c) in
      rw (a, b) (sym (append_assoc (answers_by ended new_line xs) (ended c) (all_answers_by ended ys)))

  -- a last line without its 0AH is answered as with it
  pub last_line : (xs : List ℕ) (b : ℕ) → eqb b 10 ≡ false
      → all_answers_by ended (xs ++ b ∷ []) ≡ all_answers_by ended (xs ++ b ∷ 10 ∷ [])
  unfolding from answers_by after_all end_answer_by
  last_line xs b e =
      let c = after_all new_line xs in
      let a : from ended (read c b) [] ≡ ended (read c b) = rw (not_empty c b) in
      rw (
        started ended (xs ++ b ∷ []),
        started ended (xs ++ b ∷ 10 ∷ []),
        from_parts ended new_line xs (b ∷ []),
        from_parts ended new_line xs (b ∷ 10 ∷ []),
        from_byte ended c b [] e,
        from_byte ended c b (10 ∷ []) e,
        a,
        from_last ended (read c b),
      )

  -- as many lines come out as go in, where an answer has one 0AH
  module _ (one : (c : Line) → line_ends (ended c) ≡ 1) where
    ends-byte : (c : Line) (x : Bool) → line_ends (if x then ended c else []) ≡ bit x
    unfolding count
    ends-byte c true = one c
    ends-byte c false = refl

    pub line_for-line : (c : Line) (bs : List ℕ) → line_ends (answers_by ended c bs) ≡ line_ends bs
    unfolding count answers_by answer_by
    line_for-line c [] = refl
    line_for-line c (b ∷ bs) = ends_parts (answer_by ended c b) (answers_by ended (after c b) bs)
        ∙ rw (ends-byte c (eqb b 10), line_for-line (after c b) bs)

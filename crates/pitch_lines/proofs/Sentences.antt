-- What an input is answered, said of lines and their fields (specs/Fields) and not of bytes: the laws of crate `fields`
-- for this filter's answer of a line.
-- Assumes nothing.
use Rattle.std.specs.Prelude.{if◌then◌else◌, Result}
use Prim.Native.Nat.{ℕ, suc, ◌^◌, ◌<◌}
use mathlib.Core.Path.{◌≡◌, refl, ◌∙◌}
use mathlib.Core.Bool.{Bool, true, false, ◌&&◌}
use mathlib.Core.List.{List, [], ◌∷◌, ◌++◌}
use lib.Dec.{eqb, lit<}
use lib.IntN.{ℤ, pos, negsuc}
use Rattle.loops.specs.Cases.{or_zero}
use Rattle.loops.specs.Passes.{count}
use Rattle.refusals.specs.declared.Refusal.{Refusal}
use Rattle.text.specs.Text.{decimal_within, decimal}
use Rattle.fields.specs.declared.Line.{Line}
use Rattle.fields.specs.Line.{kept}
use Rattle.fields.specs.Answers.{malformed_line}
use Rattle.fields.specs.Fields.{is_field, are_fields, line_ends, behind, number_from, is_number, spelled}
use Rattle.fields.proofs.Told.{Reads, told, never, either}
use Rattle.fields.proofs.Written.{written, ends_parts, ends_decimal}
use Rattle.fields.proofs.Sentences as sentences
use Rattle.pitch.specs.declared.Pitch.{Pitch}
use Rattle.pitch.specs.Pitch.{position, pitch_at, pitch_of, pitch_number, pitch_in}
use Rattle.pitch.proofs.Roots.{entry_at}
use Rattle.pitch_lines.specs.PitchLines.{signed, pitch_fields, answer_line, is_call, line_answer, answers_to, answers}
use Rattle.pitch_lines.specs.Fields.{fields_answer}
use Rattle.pitch_lines.proofs.Refused.{key_cut, sensitivity_cut, bend_cut}

-- ---- a line

-- the answer of three numbers; a number that is kept as 99,999,999 is refused as it would be
abbrev by : ℕ → ℕ → ℕ → List ℕ
by k s b = answer_line (pitch_of k s b)

reads : Reads line_answer 2 by malformed_line
unfolding line_answer
reads = record {
  few = lit< tt;
  is = λ c. refl;
  cut = λ k s b. rw (
    bend_cut 99999999 (kept k) (kept s) b (lit< tt),
    sensitivity_cut 99999999 (kept k) s b (lit< tt),
    key_cut 99999999 k s b (lit< tt),
  );
}

abbrev told_by : List ℕ → List (List ℕ) → List ℕ
told_by f gs = told 2 by malformed_line 0 0 0 f gs

-- a test that decides nothing
all_three : (x y z : Bool) (a b : List ℕ)
    → (if x && true then (if y && true then (if z && true then a else b) else b) else b)
    ≡ (if x && (y && z) then a else b)
all_three true true true a b = refl
all_three true true false a b = refl
all_three true false z a b = refl
all_three false y z a b = refl

fields_answer_lem : (f : List ℕ) (gs : List (List ℕ)) → told_by f gs ≡ fields_answer f gs
unfolding told fields_answer
fields_answer_lem f [] = never (is_number f) _ _
fields_answer_lem f (g ∷ []) = rw (never (is_number g)) (either (is_number f) _)
fields_answer_lem f (g ∷ h ∷ []) = all_three (is_number f) (is_number g) (is_number h) _ _
fields_answer_lem f (g ∷ h ∷ i ∷ gs) = rw (never (is_number h), either (is_number g)) (either (is_number f) _)

-- a line is answered by its fields: three numbers are a call, and any other line is malformed
pub line-answered : (f : List ℕ) (gs : List (List ℕ)) → is_field f ≡ true
    → are_fields gs ≡ true → answers (f ++ behind gs) ≡ fields_answer f gs
line-answered f gs e es = sentences.line-told line_answer 2 by malformed_line reads f gs e es ∙ fields_answer_lem f gs

-- ---- a call

-- a line of three numbers, of any length and with any leading zeros, is answered by their call: also where a number is
-- larger than those that are kept
pub call-answered : (ks ss bs : List ℕ) → is_number ks ≡ true → is_number ss ≡ true → is_number bs ≡ true
    → answers (ks ++ behind (ss ∷ bs ∷ [])) ≡ answer_line (pitch_of (spelled 0 ks) (spelled 0 ss) (spelled 0 bs))
unfolding fields_answer are_fields
call-answered ks ss bs e f g =
    line-answered ks (ss ∷ bs ∷ []) (sentences.number_field false ks e)
    (rw (sentences.number_field false ss f, sentences.number_field false bs g)) ∙ rw (e, f, g)

-- a call as a program writes it, of any three numbers up to twenty digits
pub decimal_call : (k s b : ℕ) → k < 10 ^ 20 → s < 10 ^ 20 → b < 10 ^ 20
    → answers (decimal k ++ behind (decimal s ∷ decimal b ∷ [])) ≡ answer_line (pitch_of k s b)
decimal_call k s b h i j =
    let x = written 19 k h in
    let y = written 19 s i in
    let z = written 19 b j in
    call-answered (decimal k) (decimal s) (decimal b) x.number y.number z.number ∙ rw (x.is, y.is, z.is)

-- ---- several lines

-- a line is answered whatever stood before it and whatever comes behind it
pub lines_apart : (xs ys : List ℕ) → answers (xs ++ 10 ∷ ys) ≡ answers (xs ++ 10 ∷ []) ++ answers ys
lines_apart xs ys = sentences.lines_apart line_answer xs ys

-- a last line without its 0AH is answered as with it
pub last_line : (xs : List ℕ) (b : ℕ) → eqb b 10 ≡ false → answers (xs ++ b ∷ []) ≡ answers (xs ++ b ∷ 10 ∷ [])
last_line xs b e = sentences.last_line line_answer xs b e

-- as many lines come out as go in: an answer has one 0AH
ends_signed : (z : ℤ) → line_ends (signed z) ≡ 0
unfolding count
ends_signed (pos n) = ends_decimal 20 n
ends_signed (negsuc n) = rw (ends_decimal 20 (suc n))

ends_answer : (a : Result Pitch Refusal) → line_ends (answer_line a) ≡ 1
unfolding count answer_line pitch_fields
ends_answer a =
    let p = pitch_in a in
    rw (
      ends_parts (decimal (or_zero (pitch_number a))),
      ends_decimal 20 (or_zero (pitch_number a)),
      ends_parts,
      ends_parts,
      ends_signed p.octave,
      ends_decimal 20 p.entry,
    )

ends_line : (c : Line) (x : Bool)
    → line_ends (if x then answer_line (pitch_of c.first c.previous c.last) else malformed_line) ≡ 1
unfolding count
ends_line c true = ends_answer (pitch_of c.first c.previous c.last)
ends_line c false = refl

pub line_for-line : (c : Line) (bs : List ℕ) → line_ends (answers_to c bs) ≡ line_ends bs
unfolding line_answer
line_for-line c bs = sentences.line_for-line line_answer (λ k. ends_line k (is_call k)) c bs

-- ---- some lines

-- an empty line, and `60,2`
pub empty_line : answers (10 ∷ []) ≡ malformed_line
unfolding is_field are_fields fields_answer
empty_line = line-answered [] [] refl refl

pub two_numbers : answers (54 ∷ 48 ∷ 44 ∷ 50 ∷ 10 ∷ []) ≡ malformed_line
unfolding is_field are_fields fields_answer
two_numbers = line-answered (54 ∷ 48 ∷ []) ((50 ∷ []) ∷ []) refl refl

-- `128,0,0` is answered `21,0,65536`, and `0,24,0`, the lowest of all, `0,-2,65536`
pub refused_call : answers (49 ∷ 50 ∷ 56 ∷ 44 ∷ 48 ∷ 44 ∷ 48 ∷ 10 ∷ [])
    ≡ 50 ∷ 49 ∷ 44 ∷ 48 ∷ 44 ∷ 54 ∷ 53 ∷ 53 ∷ 51 ∷ 54 ∷ 10 ∷ []
unfolding number_from spelled pitch_of answer_line pitch_fields decimal_within
refused_call = call-answered (49 ∷ 50 ∷ 56 ∷ []) (48 ∷ []) (48 ∷ []) refl refl refl

pub lowest_call : answers (48 ∷ 44 ∷ 50 ∷ 52 ∷ 44 ∷ 48 ∷ 10 ∷ [])
    ≡ 48 ∷ 44 ∷ 45 ∷ 50 ∷ 44 ∷ 54 ∷ 53 ∷ 53 ∷ 51 ∷ 54 ∷ 10 ∷ []
unfolding number_from spelled pitch_of position pitch_at answer_line pitch_fields decimal_within
lowest_call = call-answered (48 ∷ []) (50 ∷ 52 ∷ []) (48 ∷ []) refl refl refl ∙ rw (entry_at 0 (lit< tt))

-- What the lines of an input are answered, one after another, whatever the answer of a line that has ended is
-- (`ended`): a program's own crate has that.
use Rattle.std.specs.Prelude.{ℕ, List, [], ◌∷◌, ◌++◌, eqb, if◌then◌else◌}
use Rattle.fields.specs.declared.Line.{Line}
use Rattle.fields.specs.Line.{new_line, after, after_all, is_empty}

-- R17.3: `malformed` and the line's end: the answer of a line that is not the numbers that are asked for
abbrev pub malformed_line : List ℕ
malformed_line = 109 ∷ 97 ∷ 108 ∷ 102 ∷ 111 ∷ 114 ∷ 109 ∷ 101 ∷ 100 ∷ 10 ∷ []

-- what a byte of the input is answered
unfoldable pub answer_by : (Line → List ℕ) → Line → ℕ → List ℕ
answer_by ended c b = if eqb b 10 then ended c else []

-- several bytes
unfoldable pub answers_by : (Line → List ℕ) → Line → List ℕ → List ℕ
answers_by ended c [] = []
answers_by ended c (b ∷ bs) = answer_by ended c b ++ answers_by ended (after c b) bs

-- the end of the input: a last line without its 0AH is answered all the same, if it has a byte
unfoldable pub end_answer_by : (Line → List ℕ) → Line → List ℕ
end_answer_by ended c = if is_empty c then [] else ended c

-- an input
unfoldable pub all_answers_by : (Line → List ℕ) → List ℕ → List ℕ
all_answers_by ended input = answers_by ended new_line input ++ end_answer_by ended (after_all new_line input)

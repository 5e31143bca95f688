-- R17.1, R17.3: the filter `pitches`: a call a line, `k,s,b` in decimal, and for each a line `number,octave,entry`,
-- what `pitch_of k s b` answers. All text is ASCII, and every line ends with byte 0AH.
use Rattle.std.specs.Prelude.{ℕ, suc, ◌≡◌, Bool, ◌&&◌, List, [], ◌∷◌, ◌++◌, eqb, ℤ, pos, negsuc, Result, if◌then◌else◌}
use Rattle.loops.specs.Cases.{or_zero}
use Rattle.refusals.specs.declared.Refusal.{Refusal}
use Rattle.text.specs.Text.{Put, decimal}
use Rattle.pitch.specs.declared.Pitch.{Pitch}
use Rattle.pitch.specs.Pitch.{pitch_of, pitch_number, pitch_in}
use Rattle.fields.specs.declared.Line.{Line}
use Rattle.fields.specs.Answers.{malformed_line, answer_by, answers_by, end_answer_by, all_answers_by}

-- a text put at a place of a page: what is kept, and the place and the page behind it
pub record Answers (old : List ℕ) (at : ℕ) (text : List ℕ) (c r : Line) (next : ℕ) (new : List ℕ) : Type 0 where
  pub kept : r ≡ c
  pub put : Put old at text next new

-- a number with its sign, `-` below 0 and none from 0 on (`negsuc n` is -(n + 1))
abbrev pub signed : ℤ → List ℕ
signed (pos n) = decimal n
signed (negsuc n) = 45 ∷ decimal (suc n)

-- octave and entry, a comma before each, and the line's end
unfoldable pub pitch_fields : Pitch → List ℕ
pitch_fields p = (44 ∷ signed p.octave) ++ (44 ∷ decimal p.entry) ++ (10 ∷ [])

-- the line of an answer: its number, 0 for a pitch, then octave and entry
unfoldable pub answer_line : Result Pitch Refusal → List ℕ
answer_line a = decimal (or_zero (pitch_number a)) ++ pitch_fields (pitch_in a)

-- the answer of a line that has ended: a call has three numbers, the last with a digit as the others
abbrev pub is_call : Line → Bool
is_call c = c.digit && eqb c.commas 2

unfoldable pub line_answer : Line → List ℕ
line_answer c = if is_call c then answer_line (pitch_of c.first c.previous c.last) else malformed_line

-- what a byte of the input answers, several bytes, and the end of the input (crate `fields`, specs/Answers)
abbrev pub answer : Line → ℕ → List ℕ
answer c b = answer_by line_answer c b

abbrev pub answers_to : Line → List ℕ → List ℕ
answers_to c bs = answers_by line_answer c bs

abbrev pub end_answer : Line → List ℕ
end_answer c = end_answer_by line_answer c

-- R17.1: what an input is answered
abbrev pub answers : List ℕ → List ℕ
answers input = all_answers_by line_answer input

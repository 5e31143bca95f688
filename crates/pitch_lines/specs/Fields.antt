-- A line by its fields, cut at its commas (crate `fields`, specs/Fields): what it is answered, said without its bytes
-- one by one. That the code answers so is in proofs/Sentences.
use Rattle.std.specs.Prelude.{ℕ, ◌&&◌, List, [], ◌∷◌, if◌then◌else◌}
use Rattle.fields.specs.Answers.{malformed_line}
use Rattle.fields.specs.Fields.{is_number, spelled}
use Rattle.pitch.specs.Pitch.{pitch_of}
use Rattle.pitch_lines.specs.PitchLines.{answer_line}

-- a call is three fields, each a number; any other line is malformed
unfoldable pub fields_answer : List ℕ → List (List ℕ) → List ℕ
fields_answer k [] = malformed_line
fields_answer k (s ∷ []) = malformed_line
fields_answer k (s ∷ b ∷ []) =
    if is_number k && (is_number s && is_number b)
    then answer_line (pitch_of (spelled 0 k) (spelled 0 s) (spelled 0 b))
    else malformed_line
fields_answer k (s ∷ b ∷ g ∷ gs) = malformed_line

-- A line by its fields, cut at its commas: said without its bytes one by one. That a line is answered by them is in
-- proofs/Sentences.
use Rattle.std.specs.Prelude.{ℕ, ◌+◌, ◌-◌, ◌*◌, Bool, true, false, not, ◌&&◌, List, [], ◌∷◌, ◌++◌, eqb}
use Rattle.loops.specs.Passes.{count}
use Rattle.fields.specs.Line.{is_digit}

-- neither a comma nor 0AH is in a field
unfoldable pub is_field : List ℕ → Bool
is_field [] = true
is_field (x ∷ xs) = not (eqb x 44) && (not (eqb x 10) && is_field xs)

unfoldable pub are_fields : List (List ℕ) → Bool
are_fields [] = true
are_fields (g ∷ gs) = is_field g && are_fields gs

-- how many lines a text ends
abbrev pub line_ends : List ℕ → ℕ
line_ends xs = count (λ x. eqb x 10) xs

-- the fields behind the first, a comma before each, and the line's end
abbrev pub behind : List (List ℕ) → List ℕ
behind [] = 10 ∷ []
behind (g ∷ gs) = 44 ∷ (g ++ behind gs)

-- digits, one or more, where none (false) or some (true) stood before these
unfoldable pub number_from : Bool → List ℕ → Bool
number_from d [] = d
number_from d (x ∷ xs) = is_digit x && number_from true xs

abbrev pub is_number : List ℕ → Bool
is_number xs = number_from false xs

-- the number that digits spell behind those of n
unfoldable pub spelled : ℕ → List ℕ → ℕ
spelled n [] = n
spelled n (x ∷ xs) = spelled (10 * n + (x - 48)) xs

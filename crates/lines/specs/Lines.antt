-- R16.3: the line of an answer, in ASCII: its fields with commas between them.
use Rattle.std.specs.Prelude.{Option, Some, None, ℕ, zero, suc, List, [], ◌∷◌, ◌++◌}
use Rattle.refusals.specs.Refusals.{number}
use Rattle.text.specs.Text.{decimal}
use Rattle.allocation.specs.declared.Was.{Was}
use Rattle.allocation.specs.declared.Was.TheVariants.{Idle, Release, Stolen}
use Rattle.playing.specs.declared.Answer.{Answer}
use Rattle.playing.specs.declared.Answer.TheVariants.{Nothing, Done, Note, NoNote, Number}

-- a comma and a number
unfoldable pub field : ℕ → List ℕ
field n = 44 ∷ decimal n

-- a comma and `done`, `note`, `idle`, `release`, `stolen`
abbrev pub done : List ℕ
done = 44 ∷ 100 ∷ 111 ∷ 110 ∷ 101 ∷ []

abbrev pub note : List ℕ
note = 44 ∷ 110 ∷ 111 ∷ 116 ∷ 101 ∷ []

abbrev pub was : Was → List ℕ
was Idle = 44 ∷ 105 ∷ 100 ∷ 108 ∷ 101 ∷ []
was Release = 44 ∷ 114 ∷ 101 ∷ 108 ∷ 101 ∷ 97 ∷ 115 ∷ 101 ∷ []
was Stolen = 44 ∷ 115 ∷ 116 ∷ 111 ∷ 108 ∷ 101 ∷ 110 ∷ []

-- R16.4: the last fields, so many, without a meaning, a comma and a dash each; R16.7: the line's end, 0AH
abbrev pub dashes : ℕ → List ℕ
dashes zero = 10 ∷ []
dashes (suc n) = 44 ∷ 45 ∷ dashes n

-- the first field; a start and a report have no offset
abbrev pub offset_field : Option ℕ → List ℕ
offset_field (Some n) = decimal n
offset_field None = 45 ∷ []

-- what follows the offset, for a note and, R16.4, for a note-on without a generator
abbrev pub note_fields : ℕ → ℕ → ℕ → Was → List ℕ
note_fields c k g w = note ++ field c ++ field k ++ field g ++ (was w ++ dashes 0)

abbrev pub no_note_fields : ℕ → ℕ → ℕ → List ℕ
no_note_fields n c k = field n ++ field c ++ field k ++ dashes 2

-- R16.3: a line; R16.5: none has no line
unfoldable pub line_of : Option ℕ → Answer → List ℕ
line_of o Nothing = []
line_of o Done = offset_field o ++ (done ++ dashes 4)
line_of o (Note c k g w) = offset_field o ++ note_fields c k g w
line_of o (NoNote r c k) = offset_field o ++ no_note_fields (number r) c k
line_of o (Number r) = offset_field o ++ (field (number r) ++ dashes 4)

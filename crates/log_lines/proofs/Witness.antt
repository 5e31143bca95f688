-- What is said of the answer bites: nothing beside a number, the message where none fell, and a line's fields. A
-- definition loosened behind its name would not give these facts.
-- Assumes nothing.
use mathlib.Core.Path.{◌≡◌, refl}
use mathlib.Core.Bool.{true, false}
use mathlib.Core.List.{List, [], ◌∷◌}
use Prim.Native.Nat.{ℕ}
use lib.Dec.{eqb}
use lib.ListN.{take}
use Rattle.text.specs.Text.{decimal_within, hex_digit, hexadecimals}
use Rattle.arranging.specs.declared.Written.{Written}
use Rattle.arranging.specs.Arranging.{refused}
use Rattle.log_lines.specs.declared.Reading.{Reading}
use Rattle.log_lines.specs.LogLines.{bytes_read, parts_read, message_of, written_line}

pub nothing_beside_a_number : (w : Written) → eqb w.number 0 ≡ false → message_of w ≡ []
unfolding message_of
nothing_beside_a_number w e = rw e

pub message_given : (w : Written) → eqb w.number 0 ≡ true → message_of w ≡ w.bytes
unfolding message_of
message_given w e = rw e

-- `17,512,00 0`
pub line_of_17 : take 11 (written_line (refused 17 512)) ≡ 49 ∷ 55 ∷ 44 ∷ 53 ∷ 49 ∷ 50 ∷ 44 ∷ 48 ∷ 48 ∷ 32 ∷ 48 ∷ []
unfolding written_line decimal_within hex_digit hexadecimals
line_of_17 = refl

-- reads come one behind the other
pub read_by-read : (c : Reading) (p q : List ℕ) → parts_read c (p ∷ q ∷ []) ≡ bytes_read (bytes_read c p) q
read_by-read c p q = refl

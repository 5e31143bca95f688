-- A line of decimal numbers with a comma between each two, byte by byte. All text is ASCII, and every line ends with
-- byte 0AH.
use Rattle.std.specs.Prelude.{ℕ, ◌+◌, ◌-◌, ◌*◌, Bool, true, false, not, ◌&&◌, List, [], ◌∷◌, leb, ltb, eqb, if◌then◌else◌}
use Rattle.loops.specs.Cases.{at_most}
use Rattle.fields.specs.declared.Line.{Line}

-- a line of which nothing is read yet, and one that no byte makes numbers any more
abbrev pub new_line : Line
new_line = record { commas = 0; digit = false; first = 0; previous = 0; last = 0 }

abbrev pub malformed : Line
malformed = record { commas = 3; digit = false; first = 0; previous = 0; last = 0 }

-- a number as it is kept: one above 99,999,999, which every call refuses, as that
abbrev pub kept : ℕ → ℕ
kept n = at_most 99999999 n

-- a digit more of the number that is read
abbrev pub is_digit : ℕ → Bool
is_digit b = leb 48 b && leb b 57

abbrev pub with_digit : ℕ → ℕ → ℕ
with_digit n d = kept (10 * n + d)

unfoldable pub after_digit : Line → ℕ → Line
after_digit c d =
    record { commas = c.commas; digit = true; first = c.first; previous = c.previous; last = with_digit c.last d }

-- a comma behind the first or the second number: the numbers move up, so that the one that is read is always the last
abbrev pub is_parted : Line → ℕ → Bool
is_parted c b = eqb b 44 && (c.digit && ltb c.commas 2)

unfoldable pub after_comma : Line → Line
after_comma c = record { commas = c.commas + 1; digit = false; first = c.previous; previous = c.last; last = 0 }

-- any byte of a line; one that is neither makes it malformed
unfoldable pub read : Line → ℕ → Line
read c b = if is_digit b then after_digit c (b - 48) else (if is_parted c b then after_comma c else malformed)

-- any byte of an input: behind 0AH a new line begins
unfoldable pub after : Line → ℕ → Line
after c b = if eqb b 10 then new_line else read c b

unfoldable pub after_all : Line → List ℕ → Line
after_all c [] = c
after_all c (b ∷ bs) = after_all (after c b) bs

-- no byte of a line is read
abbrev pub is_empty : Line → Bool
is_empty c = not c.digit && eqb c.commas 0

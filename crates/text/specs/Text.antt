-- Text in a page of bytes, and numbers as text.
use Rattle.std.specs.Prelude.{ℕ, zero, suc, ◌+◌, ◌-◌, ◌/◌, ◌%◌, min, max, ◌≡◌, List, [], ◌∷◌, ◌++◌, ltb, eqb, length, if◌then◌else◌}
use Rattle.std.proofs.lemmas.List.Edits.{sets}

-- A text put at a place of a page, with the place and the page that this leaves. The place is the one behind the text,
-- or the page's end if the text ran into it; a place past the end stays. The page has the text's bytes stored from the
-- place on, each that falls within it, and every other byte as it was.
pub record Put (old : List ℕ) (at : ℕ) (text : List ℕ) (next : ℕ) (new : List ℕ) : Type 0 where
  pub place : next ≡ max at (min (at + length text) (length old))
  pub page : new ≡ sets old at text

-- a number of at most so many digits, in ASCII, the most significant first
unfoldable pub decimal_within : ℕ → ℕ → List ℕ
decimal_within zero n = []
decimal_within (suc k) n = if ltb n 10 then (48 + n) ∷ [] else decimal_within k (n / 10) ++ ((48 + n % 10) ∷ [])

-- every number of 64 bits has at most twenty digits
abbrev pub decimal : ℕ → List ℕ
decimal n = decimal_within 20 n

-- a hexadecimal digit in ASCII, a capital letter from 10 on; a byte as two of them
unfoldable pub hex_digit : ℕ → ℕ
hex_digit d = if ltb d 10 then 48 + d else 65 + (d - 10)

abbrev pub hexadecimal : ℕ → List ℕ
hexadecimal b = hex_digit (b / 16) ∷ hex_digit (b % 16) ∷ []

-- bytes, a blank between each two: before the one at i there is one, unless it is the first
abbrev pub blank_at : ℕ → List ℕ
blank_at i = if eqb i 0 then [] else 32 ∷ []

unfoldable pub hexadecimals : List ℕ → List ℕ
hexadecimals [] = []
hexadecimals (b ∷ []) = hexadecimal b
hexadecimals (b ∷ c ∷ l) = hexadecimal b ++ (32 ∷ hexadecimals (c ∷ l))

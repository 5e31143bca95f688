-- The line of an answer has at most 139 bytes: a number of at most three digits, a line of at most twenty, 38 bytes of
-- two digits and 37 blanks, two commas and its end. So it stands whole where there is room.
-- Assumes nothing.
use Prim.Native.Nat.{ℕ, ◌+◌, ◌*◌, ◌≤◌, ◌<◌}
use mathlib.Core.Path.{◌≡◌}
use mathlib.Core.List.{List, [], ◌∷◌, ◌++◌}
use native.Mathlib.Omega.{arith}
use lib.ListN.{length, take, drop, length-append, length-take}
use lib.Seq.{take_at}
use Rattle.text.specs.Text.{Put, decimal, hexadecimals}
use Rattle.text.proofs.Joined.{whole}
use Rattle.fields.proofs.Written.{decimal-length}
use Rattle.arranging.specs.declared.Written.{Written}
use Rattle.log_lines.specs.LogLines.{written_line}

-- a text of at most n bytes stands whole where the page has n bytes from the place on
pub stands_behind : (n : ℕ) (text : List ℕ) → length text ≤ n → (at used : ℕ) {p q : List ℕ}
    → Put p at text used q → at + n ≤ length p → take used q ≡ take at p ++ text
stands_behind n text l at used {p} {q} put h =
    let w = whole {p = p} {q = q} {t = text} {at = at} {k = used} (omega arith) put in
    let k : length (take at p ++ text) ≡ used =
    rw (length-append (take at p) text, length-take at p) (omega (arith, w.0)) in
    rw w.1 (take_at (take at p ++ text) (drop (at + length text) p) used k)

pub stands_whole : (n : ℕ) (text : List ℕ) → length text ≤ n
    → (used : ℕ) {p q : List ℕ} → Put p 0 text used q → n ≤ length p → take used q ≡ text
stands_whole n text l used put h = stands_behind n text l 0 used put (omega arith)

hex_shorter : (b : ℕ) (l : List ℕ) → length (hexadecimals (b ∷ l)) + 1 ≤ 3 * length (b ∷ l)
unfolding hexadecimals
hex_shorter b [] = omega arith
hex_shorter b (c ∷ l) = let h = hex_shorter c l in omega arith

message-length : (l : List ℕ) → length l ≡ 38 → length (hexadecimals l) ≤ 113
message-length [] e = absurd (omega arith)
message-length (b ∷ l) e = let h = hex_shorter b l in omega arith

lengths : (a b c : List ℕ) → length a ≤ 3 → length b ≤ 20
    → length c ≤ 113 → length (a ++ (44 ∷ b) ++ (44 ∷ c) ++ (10 ∷ [])) ≤ 139
lengths a b c x y z = rw (
  length-append (a ++ (44 ∷ b) ++ (44 ∷ c)) (10 ∷ []),
  length-append (a ++ (44 ∷ b)) (44 ∷ c),
  length-append a (44 ∷ b),
) (omega arith)

pub line-length : (w : Written) → w.number < 256 → w.line < 18446744073709551616
    → length w.bytes ≡ 38 → length (written_line w) ≤ 139
unfolding written_line
line-length w n l b =
    lengths (decimal w.number) (decimal w.line) (hexadecimals w.bytes)
    (decimal-length 2 20 w.number (omega arith))
    (decimal-length 19 20 w.line (omega arith))
    (message-length w.bytes b)

-- The line of an answer has at most 15 bytes: a number of at most three digits, thefts of at most ten, a comma and its
-- end. So 16 bytes are room.
-- Assumes nothing.
use Rattle.std.specs.Prelude.{Result, Ok, Err}
use Prim.Native.Nat.{ℕ, ◌≤◌, ◌<◌}
use mathlib.Core.Path.{◌≡◌}
use mathlib.Core.List.{List, [], ◌∷◌, ◌++◌}
use native.Mathlib.Omega.{arith}
use lib.ListN.{length, take, length-append}
use lib.Seq.{take_at}
use Rattle.text.specs.Text.{Put, decimal_within, decimal}
use Rattle.text.proofs.Joined.{whole}
use Rattle.fields.proofs.Written.{decimal-length}
use Rattle.refusals.specs.declared.Refusal.{Refusal}
use Rattle.refusals.specs.Refusals.{number}
use Rattle.loops.specs.Cases.{or_zero}
use Rattle.song.specs.Song.{song_number, thefts_in}
use Rattle.song_lines.specs.SongLines.{answer_line}

pub answer-length : (a : Result ℕ Refusal) → or_zero (song_number a) < 256
    → thefts_in a < 4294967296 → length (answer_line a) ≤ 16
unfolding answer_line decimal_within
answer-length (Ok t) m h =
    let d : length (decimal t) ≤ 10 = decimal-length 9 20 t (omega arith) in
    rw (length-append (decimal t) (10 ∷ [])) (omega arith)
answer-length (Err r) m h =
    let d : length (decimal (number r)) ≤ 3 = decimal-length 2 20 (number r) (omega arith) in
    rw (length-append (decimal (number r) ++ (44 ∷ 48 ∷ [])) (10 ∷ []), length-append (decimal (number r)) (44 ∷ 48 ∷ []))
    (omega arith)

-- so it stands in a page of 16 bytes whole
pub stands_whole : (a : Result ℕ Refusal) → or_zero (song_number a) < 256 → thefts_in a < 4294967296
    → (used : ℕ) {p q : List ℕ}
    → Put p 0 (answer_line a) used q → 16 ≤ length p → take used q ≡ answer_line a
stands_whole a m t used {p} {q} put h =
    let l = answer-length a m t in
    let w = whole {p = p} {q = q} {t = answer_line a} {at = 0} {k = used} (omega arith) put in
    let n : length (answer_line a) ≡ used = omega (arith, w.0) in
    rw w.1 (take_at (answer_line a) _ used n)

-- An answer's line has at most 13 bytes: a number and an octave of two, an entry of six, and its commas and its end. So
-- 16 bytes a byte of input are room.
-- Assumes nothing.
use Rattle.std.specs.Prelude.{if◌then◌else◌, Ok, Err}
use Prim.Native.Nat.{ℕ, suc, ◌*◌, ◌≤◌, ◌<◌}
use mathlib.Core.Bool.{Bool, true, false}
use mathlib.Core.List.{List, [], ◌∷◌}
use native.Mathlib.Omega.{arith}
use lib.Dec.{eqb, leb→le}
use lib.IntN.{ℤ, pos, negsuc}
use lib.Signed.{◌≤ℤ◌}
use lib.ListN.{length, length-append}
use Rattle.loops.specs.Cases.{or_zero}
use Rattle.text.specs.Text.{decimal}
use Rattle.refusals.specs.declared.Refusal.TheVariants as refusal
use Rattle.pitch.specs.Pitch.{rest, position, pitch_at, is_out, pitch_of, pitch_number, pitch_in}
use Rattle.pitch.proofs.Roots.{entry_at, to_twice}
use Rattle.pitch.proofs.Rising.{octave_range}
use Rattle.fields.specs.declared.Line.{Line}
use Rattle.fields.specs.Line.{after}
use Rattle.fields.specs.Answers.{malformed_line, answer_by, answers_by}
use Rattle.fields.proofs.Written.{decimal-length}
use Rattle.pitch_lines.specs.PitchLines.{signed, pitch_fields, answer_line, is_call, line_answer, answer, answers_to}

signed-length : (z : ℤ) → negsuc 1 ≤ℤ z → z ≤ℤ pos 12 → length (signed z) ≤ 2
signed-length (pos n) a b = let h : n ≤ 12 = leb→le n 12 b.le in decimal-length 1 20 n (omega arith)
signed-length (negsuc n) a b =
    let h : n ≤ 1 = leb→le n 1 a.le in
    let d = decimal-length 0 20 (suc n) (omega arith) in
    omega arith

rest_below : (z : ℤ) → rest z 192 < 192
rest_below (pos n) = omega arith
rest_below (negsuc n) = omega arith

entry_below : (k s b : ℕ) → (pitch_in (pitch_of k s b)).entry < 131072
unfolding pitch_of pitch_at
entry_below k s b = go (is_out k s b)
  where
    go : (x : Bool) → (pitch_in (if x then Err refusal.PitchOutOfRange else Ok (pitch_at (position k s b)))).entry < 131072
    go true = omega arith
    go false =
        let h = rest_below (position k s b) in
        rw (entry_at (rest (position k s b) 192) h) (to_twice (rest (position k s b) 192) h)

number_length : (k s b : ℕ) → length (decimal (or_zero (pitch_number (pitch_of k s b)))) ≤ 2
unfolding pitch_of
number_length k s b = go (is_out k s b)
  where
    go : (x : Bool)
        → length (decimal (or_zero (pitch_number
        (if x then Err refusal.PitchOutOfRange else Ok (pitch_at (position k s b)))))) ≤ 2
    go true = decimal-length 1 20 21 (omega arith)
    go false = decimal-length 1 20 0 (omega arith)

answer-length : (k s b : ℕ) → length (answer_line (pitch_of k s b)) ≤ 16
unfolding answer_line pitch_fields
answer-length k s b =
    let p = pitch_in (pitch_of k s b) in
    let r = octave_range k s b in
    let e = entry_below k s b in
    let x = number_length k s b in
    let y = signed-length p.octave r.0 r.1 in
    let z = decimal-length 5 20 p.entry (omega arith) in
    simp length-append (omega arith)

line-length : (c : Line) → length (line_answer c) ≤ 16
unfolding line_answer
line-length c = go (is_call c)
  where
    go : (x : Bool) → length (if x then answer_line (pitch_of c.first c.previous c.last) else malformed_line) ≤ 16
    go true = answer-length c.first c.previous c.last
    go false = omega arith

byte_length : (c : Line) (x : Bool) → length (if x then line_answer c else []) ≤ 16
byte_length c true = line-length c
byte_length c false = omega arith

pub bytes_length : (c : Line) (bs : List ℕ) → length (answers_to c bs) ≤ 16 * length bs
unfolding answers_by answer_by
bytes_length c [] = omega arith
bytes_length c (b ∷ bs) =
    let h = byte_length c (eqb b 10) in
    let t = bytes_length (after c b) bs in
    rw (length-append (answer c b) (answers_to (after c b) bs)) (omega arith)

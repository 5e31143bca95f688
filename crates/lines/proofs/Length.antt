-- A line is no longer than 128 bytes, whatever its numbers: five of them, of twenty digits each, and its words.
-- Assumes nothing.
use Rattle.std.specs.Prelude.{Option, Some, None}
use Prim.Native.Nat.{ℕ, ◌≤◌}
use native.Mathlib.Omega.{arith}
use lib.ListN.{length, length-append}
use Rattle.refusals.specs.Refusals.{number}
use Rattle.text.proofs.Digits.{digits_within}
use Rattle.allocation.specs.declared.Was.{Was}
use Rattle.allocation.specs.declared.Was.TheVariants.{Idle, Release, Stolen}
use Rattle.playing.specs.declared.Answer.{Answer}
use Rattle.playing.specs.declared.Answer.TheVariants.{Nothing, Done, Note, NoNote, Number}
use Rattle.lines.specs.Lines.{field, offset_field, was, line_of}

field-length : (n : ℕ) → length (field n) ≤ 21
unfolding field
field-length n = let h = digits_within 20 n in omega arith

offset_length : (o : Option ℕ) → length (offset_field o) ≤ 20
offset_length (Some n) = digits_within 20 n
offset_length None = omega arith

was-length : (w : Was) → length (was w) ≤ 8
was-length Idle = omega arith
was-length Release = omega arith
was-length Stolen = omega arith

pub line-length : (o : Option ℕ) (a : Answer) → length (line_of o a) ≤ 128
unfolding line_of
line-length o Nothing = omega arith
line-length o Done = let x = offset_length o in rw (length-append (offset_field o) _) (omega arith)
line-length o (Note c k g w) =
    let x = offset_length o in
    let y = field-length c in
    let z = field-length k in
    let t = field-length g in
    let u = was-length w in
    simp length-append (omega arith)
line-length o (NoNote r c k) =
    let x = offset_length o in
    let y = field-length (number r) in
    let z = field-length c in
    let t = field-length k in
    simp length-append (omega arith)
line-length o (Number r) =
    let x = offset_length o in
    let y = field-length (number r) in
    simp length-append (omega arith)

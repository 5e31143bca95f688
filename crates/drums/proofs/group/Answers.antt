-- `drums::group` meets its contract: the row at the loop's place is the first of its key, or the first is among the
-- rest.
-- Assumes nothing.
use Prim.Native.Nat.{◌≤◌, ◌<◌}
use native.Mathlib.Omega.{arith}
use lib.ListN.{length}
use borrow.Author.Tests.{eq-eqb, ne_eqb}
use Rattle.loops.proofs.Search.{first_yes, first_no, first_end}
use Rattle.drums.proofs.Rows.{rows, none_row, is_key, of_row, of_none}
use Rattle.drums.proofs.group.Goals as goal

pub returns-then-d-key : goal.returns-then-d-key
returns-then-d-key c =
    let k = c.args.key in
    let h : c.loop-i.i < length rows = omega arith in
    of_row k _ (omega arith)
    (first_yes (is_key k) none_row rows c.loop-i.i _ h c.loop-i.invariant (eq-eqb _ _ c.if-d-key.true))

pub loop-i-preserved : goal.loop-i-preserved
loop-i-preserved c =
    let k = c.args.key in
    let h : c.loop-i.i < length rows = omega arith in
    first_no (is_key k) none_row rows c.loop-i.i _ h c.loop-i.invariant (ne_eqb _ _ c.if-d-key.false)

pub returns : goal.returns
returns c =
    let k = c.args.key in
    let h : length rows ≤ c.loop-i.i = omega arith in
    of_none k (omega arith) (first_end (is_key k) rows c.loop-i.i _ h c.loop-i.invariant)

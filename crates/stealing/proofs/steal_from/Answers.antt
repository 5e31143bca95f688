-- `stealing::steal_from` meets its contract. Invariant: the answer for the first i entries is the answer for all.
-- Assumes nothing.
use Prim.Native.Nat.{◌-◌, ◌<◌}
use mathlib.Core.Path.{◌≡◌, sym, ap, ◌∙◌}
use native.Mathlib.Omega.{arith}
use borrow.Author.Tests.{eq-eqb, ne_eqb}
use Rattle.loops.specs.Cases.{given}
use Rattle.loops.proofs.Padded.{take-at_most}
use Rattle.shares.specs.Shares.{shares_from}
use Rattle.stealing.specs.Stealing.{counted, over_share, steal_from}
use Rattle.stealing.proofs.Backward.{before, over_yes, over_no}
use Rattle.stealing.proofs.steal_from.Goals as goal
use Rattle.stealing.proofs.steal_from.Goals.{then-i-eq0, else-i-eq0}

pub returns-then-is_over : goal.returns-then-is_over
unfolding steal_from
returns-then-is_over c =
    let a = c.args in
    let t : c.if-i-eq0.before ≡ before a.table.entries (c.loop-i.i - 1) =
    elim c.if-i-eq0.branch [
      | then-i-eq0 w ↦ rw (eq-eqb _ _ w.if-i-eq0.true) w.before-is
      | else-i-eq0 w ↦ rw (ne_eqb _ _ w.if-i-eq0.false) w.before-is
    ] in
    let h : 0 < c.loop-i.i = c.loop-i-test.true in
    rw (← (take-at_most 16 a.table.count a.table.entries c.loop-i.invariant.0))
    (ap given (over_yes a.polyphony (counted a.generators a.channel)
    a.table.entries c.loop-i.i h (omega arith) _ c.loop-i.invariant.1 (rw t at (sym c.is_over.ensures ∙ c.if-is_over.true))))

pub loop-i-preserved : goal.loop-i-preserved
loop-i-preserved c =
    let a = c.args in
    let t : c.if-i-eq0.before ≡ before a.table.entries (c.loop-i.i - 1) =
    elim c.if-i-eq0.branch [
      | then-i-eq0 w ↦ rw (eq-eqb _ _ w.if-i-eq0.true) w.before-is
      | else-i-eq0 w ↦ rw (ne_eqb _ _ w.if-i-eq0.false) w.before-is
    ] in
    let h : 0 < c.loop-i.i = c.loop-i-test.true in (
      c.loop-i.invariant.0,
      over_no a.polyphony (counted a.generators a.channel)
          a.table.entries c.loop-i.i h (omega arith) _ c.loop-i.invariant.1 (rw t at (sym c.is_over.ensures ∙ c.if-is_over.false)),
    )

pub returns : goal.returns
unfolding steal_from shares_from over_share
returns c =
    let a = c.args in
    let e : c.loop-i.i ≡ 0 = omega arith in
    rw (← (take-at_most 16 a.table.count a.table.entries c.loop-i.invariant.0))
    (ap given (rw e at c.loop-i.invariant.1))

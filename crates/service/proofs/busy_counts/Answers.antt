-- `service::busy_counts` meets its contract. Invariant: the counts are those of the first g generators.
-- Assumes nothing.
use mathlib.Core.Path.{refl, sym, ◌∙◌}
use Prim.Native.Nat.{◌≤◌}
use native.Mathlib.Omega.{arith}
use lib.ListN.{get_or}
use Rattle.service.proofs.Count.{none_counted, few, counted-small, counted_more, counted_same, counted_all}
use Rattle.service.proofs.busy_counts.Goals as goal
use Rattle.service.proofs.busy_counts.Goals.{then-is_counted, else-is_counted}

pub loop-g-init : goal.loop-g-init
loop-g-init c = none_counted c.args.s.state c.args.s.channel

pub overflow_add-out : goal.overflow_add-out
overflow_add-out c =
    let l = c.loop-g in
    let s = c.args.s in
    let k = get_or s.channel l.g 0 in
    let n : get_or l.out k 0 ≤ l.g =
    few s.state s.channel l.g l.out l.invariant k
    (counted-small (get_or s.state l.g 0) _ (sym c.is_counted.ensures ∙ c.if-is_counted.true)) in
    omega arith

pub loop-g-preserved : goal.loop-g-preserved
loop-g-preserved c =
    let l = c.loop-g in
    let s = c.args.s in
    let e = sym c.is_counted.ensures in
    let k = get_or s.channel l.g 0 in
    elim c.if-is_counted.branch [
      | then-is_counted w ↦ rw w.out-is (counted_more s.state s.channel l.g l.out l.invariant k refl (e ∙ w.if-is_counted.true))
      | else-is_counted w ↦ rw w.out-is (counted_same s.state s.channel l.g l.out l.invariant k refl (e ∙ w.if-is_counted.false))
    ]

pub returns : goal.returns
returns c =
    let l = c.loop-g in
    counted_all c.args.s l.g l.out (omega arith) l.invariant

-- `joint::raise` meets its contract. Invariant: joint is the joint count of the first k channels, and the first k
-- counts are raised.
-- Assumes nothing.
use Prim.Native.Nat.{ℕ, ◌+◌}
use mathlib.Core.Path.{refl, sym, ap, ◌∙◌}
use native.Mathlib.Omega.{arith}
use lib.ListN.{take, get_or}
use Rattle.loops.specs.Passes.{up_to}
use Rattle.loops.proofs.Fill.{fill_next, fill_end}
use Rattle.joint.specs.Joint.{busy_on, larger, raised}
use Rattle.joint.proofs.Channels.{busy_none, larger_max}
use Rattle.joint.proofs.raise.Goals as goal

pub loop-k-init : goal.loop-k-init
unfolding up_to
loop-k-init c =
    (omega arith, c.well_formed.0.1.0.1, c.well_formed.1.0.1.0.1, sym (busy_none c.args.s), omega arith, refl)

pub next_joint-joint-requires : goal.next_joint-joint-requires
next_joint-joint-requires c = let l = c.loop-k in (omega arith, l.invariant.3, l.invariant.4)

pub loop-k-preserved : goal.loop-k-preserved
loop-k-preserved c =
    let l = c.loop-k in
    let a = c.args in
    let n = c.next_joint-joint.ensures in (
      omega arith,
      l.invariant.1,
      l.invariant.2,
      n.0,
      n.1,
      fill_next (λ (j : ℕ). larger (get_or a.most j 0) (busy_on (take (j + 1) a.order) a.s)) 0 _ l.out l.k _
          (omega arith) l.invariant.5
          (c.max.ensures ∙ larger_max (get_or a.most l.k 0) _ ∙ ap (larger (get_or a.most l.k 0)) n.0),
    )

pub returns : goal.returns
unfolding raised
returns c =
    let l = c.loop-k in
    let a = c.args in
    fill_end (λ (j : ℕ). larger (get_or a.most j 0) (busy_on (take (j + 1) a.order) a.s)) _ l.out l.k 16
    (omega arith) (omega arith) l.invariant.5

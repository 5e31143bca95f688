-- `joint::next_joint` meets its contract: a channel that stood before adds nothing, another adds its busy generators.
-- Assumes nothing.
use Prim.Native.Nat.{◌+◌}
use mathlib.Core.Path.{sym, ◌∙◌}
use native.Mathlib.Omega.{arith}
use lib.ListN.{take, get_or}
use Rattle.joint.proofs.Channels.{any_among, joint-same, joint_more, busy_64}
use Rattle.joint.proofs.next_joint.Goals as goal

pub returns-then-contains : goal.returns-then-contains
returns-then-contains c =
    let a = c.args in
    let z = c.well_formed.0.1.0.1 in
    let e = joint-same a.order a.s a.k (omega arith) (sym (any_among (get_or a.order a.k 0) (take a.k a.order)) ∙ sym c.contains.ensures.value ∙ c.if-contains.true) in
    (c.requires.1 ∙ sym e, c.requires.2)

pub returns : goal.returns
returns c =
    let a = c.args in
    let z = c.well_formed.0.1.0.1 in
    let e = joint_more a.order a.s a.k (omega arith)
    (sym (any_among (get_or a.order a.k 0) (take a.k a.order)) ∙ sym c.contains.ensures.value ∙ c.if-contains.false) in
    let f = busy_64 (take (a.k + 1) a.order) a.s in
    (omega arith, omega arith)

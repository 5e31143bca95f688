-- `ages::Ages::newest` meets its contract: the generator is left out by a mark for it alone, and then pushed behind the
-- others.
-- Assumes nothing.
use Prim.Native.Nat.{◌<◌}
use native.Mathlib.Omega.{arith}
use borrow.Author.Tests.{lt-ltb}
use mathlib.Core.Path.{◌∙◌}
use Rattle.loops.specs.Passes.{filter_by}
use Rattle.loops.proofs.Search.{filter_same}
use Rattle.ages.specs.Ages.{oldest_first, other_than, without, newest}
use Rattle.ages.proofs.Orders.{push_of, one_marked}
use Rattle.ages.proofs.Ages.newest.Goals as goal

pub returns : goal.returns
unfolding newest without
returns c =
    let a = c.args in
    let h : a.g < 256 = omega (arith, c.if-g-ge64.false) in
    let others = filter_same _ (other_than a.g) (oldest_first a.self) (one_marked a.g h) in
    simp (lt-ltb _ _ c.if-g-ge64.false) (c.push.ensures
    ∙ rw (c.without.ensures, c.from.ensures, others) (push_of (filter_by (other_than a.g) (oldest_first a.self)) a.g))

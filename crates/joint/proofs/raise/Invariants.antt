-- `joint::raise` meets its contract. Invariant: joint is the joint count of the first k channels, and the first k
-- counts are raised.
-- Assumes nothing.
use Prim.Native.Nat.{◌+◌, ◌≤◌}
use mathlib.Core.Path.{◌≡◌}
use mathlib.Core.List.{◌++◌}
use lib.ListN.{length, take, drop, get_or}
use Rattle.loops.specs.Passes.{up_to}
use Rattle.joint.specs.Joint.{busy_on, larger}
use Rattle.joint.proofs.raise.Given as goal

abbrev pub invariant-loop-k : goal.invariant-loop-k
invariant-loop-k l =
    (l.k ≤ 16) × (length l.order ≡ 16) × (length l.initial.out ≡ 16)
    × (l.joint ≡ busy_on (take l.k l.order) l.s) × (l.joint ≤ 64)
    × (l.out ≡ up_to (λ j. larger (get_or l.most j 0) (busy_on (take (j + 1) l.order) l.s)) l.k
    ++ drop l.k l.initial.out)

-- `order::times` meets its contract. Invariant: n is how often c stands among those before the loop's place.
-- Assumes nothing.
use Rattle.std.specs.List.{count_by}
use mathlib.Core.Path.{◌≡◌}
use Prim.Native.Nat.{◌≤◌}
use lib.Dec.{eqb}
use lib.ListN.{take}
use Rattle.order.proofs.times.Given as goal

abbrev pub invariant-loop-x : goal.invariant-loop-x
invariant-loop-x l = (l.n ≤ l.x-index) × (l.n ≡ count_by (λ x. eqb x l.c) (take l.x-index l.x-items))

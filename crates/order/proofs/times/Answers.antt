-- `order::times` meets its contract: what the loop counts is counted as the definition does.
-- Assumes nothing.
use Rattle.std.specs.List.{count_by}
use mathlib.Core.Path.{◌≡◌, sym, ap, ◌∙◌}
use mathlib.Core.List.{List}
use Prim.Native.Nat.{ℕ, ◌≤◌}
use native.Mathlib.Omega.{arith}
use lib.Dec.{eqb}
use lib.ListN.{length}
use lib.Seq.{take_all}
use Rattle.order.proofs.Counting.{counts}
use Rattle.order.proofs.times.Goals as goal

pub returns : goal.returns
returns c =
    let p = λ (x : ℕ). eqb x c.args.c in
    let size : length c.args.order ≡ 16 = c.well_formed.0.1.0.1 in
    let all : length c.args.order ≤ c.loop-x.x-index = omega arith in
    c.loop-x.invariant.1
    ∙ ap (λ (l : List ℕ). count_by p l) (take_all c.loop-x.x-index c.args.order all)
    ∙ sym (counts p c.args.order)

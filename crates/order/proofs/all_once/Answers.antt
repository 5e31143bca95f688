-- `order::all_once` meets its contract: the library tests all of 0 to 15 as the definition does.
-- Assumes nothing.
use Rattle.std.proofs.Common.{rules, tests}
use Rattle.std.proofs.lemmas.Iterator.{YieldsList-from_range}
use Rattle.std.proofs.lemmas.Iterator.Search.{all_from_yields_List}
use mathlib.Core.Path.{refl, ◌∙◌}
use Prim.Native.Nat.{ℕ, ◌+◌}
use lib.Dec.{eqb}
use Rattle.order.specs.Order.{times}
use Rattle.order.proofs.Counting.{all_each}
use Rattle.order.proofs.all_once.Goals as goal

pub returns : goal.returns
returns c =
    let p = λ (i : ℕ). eqb (times c.args.order (i + 1)) 1 in
    all_from_yields_List p _ _ c.all.result c.all.ensures.ran (YieldsList-from_range 0 16 16 refl refl)
    (λ x b q k. search (rules, tests)) ∙ all_each p 16

-- `table::Table::start` meets its contract: the array that the formula makes (Start) is that of the starting order.
-- Assumes nothing.
use Rattle.std.proofs.Common.{rules}
use Prim.Native.Nat.{ℕ}
use mathlib.Core.Path.{ap}
use mathlib.Core.List.{List}
use Rattle.loops.specs.Passes.{up_to, padded}
use Rattle.loops.proofs.Fill.{made_up_to}
use Rattle.table.specs.declared.Entry.{Entry}
use Rattle.table.specs.Table.{entry, table_of, start_channel, start_table}
use Rattle.table.proofs.Table.start.Goals as goal

pub returns : goal.returns
unfolding start_table table_of padded up_to
returns c =
    ap (λ (es : List Entry). record { count = 16; entries = es })
    (made_up_to _ _ (λ (i : ℕ). entry (start_channel i) c.args.polyphony) (λ i y q k. (search rules, k.met.1))
    (entry 0 0) _ 16 c.from_fn.ensures.items)

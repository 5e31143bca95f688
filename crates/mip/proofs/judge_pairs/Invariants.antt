-- `mip::judge_pairs` meets its contract. Invariant: the table is that of its entries, two bytes for each, and the
-- judgement of these entries and of the pairs that are left is that of all pairs.
-- Assumes nothing.
use Prim.Native.Nat.{◌+◌, ◌*◌, ◌≤◌}
use mathlib.Core.Path.{◌≡◌}
use mathlib.Core.List.{◌++◌}
use lib.ListN.{length}
use Rattle.table.specs.Table.{entries_of, table_of}
use Rattle.mip.specs.Mip.{pairs, faulty, judged_by, judged_pairs}
use Rattle.mip.proofs.Listed.{Marks}
use Rattle.mip.proofs.judge_pairs.Given as goal

abbrev pub invariant-loop-pair : goal.invariant-loop-pair
invariant-loop-pair l =
    (l.pair-iterator.size ≡ 2) × (2 * l.t.count + length l.pair-iterator.rest.now ≤ 32)
    × (l.t ≡ table_of (entries_of l.t))
    × (judged_by (entries_of l.t ++ pairs l.pair-iterator.rest.now)
    (faulty (entries_of l.t) l.before (pairs l.pair-iterator.rest.now))
    ≡ judged_pairs (pairs l.fn.bytes))
    × (length l.listed ≡ 256) × Marks (entries_of l.t) l.listed

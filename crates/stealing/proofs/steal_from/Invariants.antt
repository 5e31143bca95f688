-- `stealing::steal_from` meets its contract. Invariant: the answer for the first i entries is the answer for all.
-- Assumes nothing.
use mathlib.Core.Path.{◌≡◌}
use lib.ListN.{length, take}
use Rattle.std.specs.Prelude.{min}
use Rattle.shares.specs.Shares.{shares_from}
use Rattle.stealing.specs.Stealing.{counted, over_share}
use Rattle.stealing.proofs.steal_from.Given as goal

abbrev pub invariant-loop-i : goal.invariant-loop-i
invariant-loop-i l =
    (length l.entries ≡ 16)
    × (over_share (counted l.generators l.channel) (shares_from l.polyphony 0 (take l.i l.entries))
    ≡ over_share (counted l.generators l.channel) (shares_from l.polyphony 0 (take (min l.fn.table.count 16) l.entries)))

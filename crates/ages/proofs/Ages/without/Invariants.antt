-- `ages::Ages::without` meets its contract. Invariant: with a 0 put at count the array holds the unmarked ones among the
-- numbers gone over, and 0 behind them; count is their number.
-- Assumes nothing.
use Prim.Native.Nat.{◌≤◌}
use mathlib.Core.Path.{◌≡◌}
use lib.ListN.{length, set}
use Rattle.loops.specs.Passes.{padded}
use Rattle.loops.proofs.Compact.{kept}
use Rattle.ages.specs.Ages.{unmarked}
use Rattle.ages.proofs.Ages.without.Given as goal

abbrev pub invariant-loop-g : goal.invariant-loop-g
invariant-loop-g l =
    (length l.fn.self.generator ≡ 64)
    × (l.count ≤ l.g-index)
    × (l.count ≡ length (kept (unmarked l.marks) 0 64 l.fn.self.generator l.g-index))
    × (length l.generator ≡ 64)
    × (set l.generator l.count 0 ≡ padded 64 0 (kept (unmarked l.marks) 0 64 l.fn.self.generator l.g-index))

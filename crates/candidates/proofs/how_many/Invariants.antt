-- `candidates::how_many` meets its contract. Invariant: n is the count of the first i generators.
-- Assumes nothing.
use Prim.Native.Nat.{◌≤◌}
use mathlib.Core.Path.{◌≡◌}
use Rattle.loops.specs.Cases.{bit}
use Rattle.loops.specs.Passes.{total}
use Rattle.candidates.proofs.Wanted.{wanted_at}
use Rattle.candidates.proofs.how_many.Given as goal

abbrev pub invariant-loop-i : goal.invariant-loop-i
invariant-loop-i l = (l.n ≤ l.i) × (l.n ≡ total (λ g. bit (wanted_at l.want l.state l.channel g)) l.i)

-- `candidates::lowest_idle` meets its contract. Invariant: the first idle generator from g on, below the smaller of 64
-- and p, is the first of all.
-- Assumes nothing.
use Prim.Native.Nat.{ℕ}
use mathlib.Core.Path.{◌≡◌}
use mathlib.Core.Bool.{Bool}
use mathlib.Core.List.{List}
use lib.Dec.{eqb}
use lib.ListN.{drop, get_or}
use Rattle.loops.specs.Passes.{first_of}
use Rattle.candidates.proofs.Scans.{numbers}
use Rattle.candidates.proofs.lowest_idle.Given as goal

abbrev pub idle_in : List ℕ → ℕ → Bool
idle_in state g = eqb (get_or state g 0) 0

abbrev pub invariant-loop-g : goal.invariant-loop-g
invariant-loop-g l =
    first_of (idle_in l.generators.state) (drop l.g (numbers l.n)) ≡ first_of (idle_in l.generators.state) (numbers l.n)

-- `candidates::first_marked` meets its contract. Invariant: the first generator with a mark in the order from the
-- loop's place on is the first of all.
-- Assumes nothing.
use Prim.Native.Nat.{ℕ}
use mathlib.Core.Path.{◌≡◌}
use mathlib.Core.Bool.{Bool, not}
use mathlib.Core.List.{List}
use lib.Dec.{eqb}
use lib.ListN.{drop, get_or}
use Rattle.loops.specs.Passes.{first_of}
use Rattle.candidates.proofs.first_marked.Given as goal

abbrev pub has-mark : List ℕ → ℕ → Bool
has-mark marks g = not (eqb (get_or marks g 0) 0)

abbrev pub invariant-loop-g : goal.invariant-loop-g
invariant-loop-g l = first_of (has-mark l.marks) (drop l.g-index l.g-items) ≡ first_of (has-mark l.marks) l.g-items

-- `drums::group` meets its contract. Invariant: the first row of the key among the rows from the loop's place on is the
-- first among all.
-- Assumes nothing.
use mathlib.Core.Path.{◌≡◌}
use lib.ListN.{drop}
use Rattle.loops.specs.Passes.{first_of}
use Rattle.drums.proofs.Rows.{rows, is_key}
use Rattle.drums.proofs.group.Given as goal

abbrev pub invariant-loop-i : goal.invariant-loop-i
invariant-loop-i l = first_of (is_key l.key) (drop l.i rows) ≡ first_of (is_key l.key) rows

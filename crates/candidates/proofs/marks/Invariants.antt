-- `candidates::marks` meets its contract. Invariant: the first i marks are those of the rule, the others 0. From
-- 64 on no generator is wanted.
-- Assumes nothing.
use mathlib.Core.Path.{◌≡◌}
use mathlib.Core.List.{◌++◌}
use lib.ListN.{length, drop, replicate}
use Rattle.loops.specs.Cases.{bit}
use Rattle.loops.specs.Passes.{up_to}
use Rattle.candidates.proofs.Wanted.{wanted_at}
use Rattle.candidates.proofs.marks.Given as goal

abbrev pub invariant-loop-i : goal.invariant-loop-i
invariant-loop-i l = (length l.state ≡ 64)
    × (l.out ≡ up_to (λ g. bit (wanted_at l.want l.state l.channel g)) l.i ++ drop l.i (replicate 256 0))

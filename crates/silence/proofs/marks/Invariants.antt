-- `silence::marks` meets its contract. Invariant: the first i marks are those of the rule, the others 0. From 64 on no
-- generator leaves.
-- Assumes nothing.
use Prim.Native.Nat.{ℕ}
use mathlib.Core.Path.{◌≡◌}
use mathlib.Core.Bool.{Bool}
use mathlib.Core.List.{List, ◌++◌}
use lib.ListN.{length, drop, get_or, replicate}
use Rattle.loops.specs.Cases.{bit}
use Rattle.loops.specs.Passes.{up_to}
use Rattle.silence.specs.declared.Leaving.{Leaving}
use Rattle.generators.specs.Generators.{generator}
use Rattle.silence.specs.Silence.{leaves}
use Rattle.silence.proofs.marks.Given as goal

-- whether generator g leaves
abbrev pub rule : List ℕ → List ℕ → List ℕ → Leaving → ℕ → Bool
rule state channel keys leaving g =
    leaves leaving g (generator (get_or state g 0) (get_or channel g 0) (get_or keys g 0))

abbrev pub invariant-loop-i : goal.invariant-loop-i
invariant-loop-i l = (length l.state ≡ 64)
    × (l.out ≡ up_to (λ g. bit (rule l.state l.channel l.keys l.leaving g)) l.i ++ drop l.i (replicate 256 0))

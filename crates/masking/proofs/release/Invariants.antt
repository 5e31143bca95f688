-- `masking::release` meets its contract. Invariant: the first g states are those of the rule, the others as they were.
-- Assumes nothing.
use Rattle.std.specs.Prelude.{if◌then◌else◌}
use Prim.Native.Nat.{ℕ}
use mathlib.Core.Path.{◌≡◌}
use mathlib.Core.Bool.{Bool, false, ◌&&◌}
use mathlib.Core.List.{List, ◌++◌}
use lib.ListN.{length, drop, get_or}
use Rattle.loops.specs.Passes.{up_to}
use Rattle.generators.specs.Generators.{generator, is_busy}
use Rattle.masking.proofs.release.Given as goal

-- the state of generator g afterwards
abbrev pub rule : List ℕ → List ℕ → List Bool → ℕ → ℕ
rule state channel gone g =
    if is_busy (generator (get_or state g 0) 0 0) && get_or gone (get_or channel g 0) false then 3
    else get_or state g 0

abbrev pub invariant-loop-g : goal.invariant-loop-g
invariant-loop-g l =
    (length l.initial.out ≡ 64) × (l.out ≡ up_to (rule l.state l.channel l.gone) l.g ++ drop l.g l.initial.out)

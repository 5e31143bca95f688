-- `masking::newly_masked` meets its contract. Invariant: the numbers below c are marked by the rule, the others are
-- not. From 17 on there is no channel.
-- Assumes nothing.
use Prim.Native.Nat.{ℕ, ◌<◌, ◌≤◌}
use mathlib.Core.Path.{◌≡◌}
use mathlib.Core.Bool.{false}
use lib.ListN.{length, get_or}
use Rattle.masking.specs.Masking.{is_newly_masked}
use Rattle.masking.proofs.newly_masked.Given as goal

abbrev pub invariant-loop-c : goal.invariant-loop-c
invariant-loop-c l =
    (length l.out ≡ 256)
    × ((k : ℕ) → k < l.c → get_or l.out k false ≡ is_newly_masked l.fn.polyphony l.fn.old l.fn.new k)
    × ((k : ℕ) → l.c ≤ k → get_or l.out k false ≡ false)

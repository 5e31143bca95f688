-- `masking::unmasked` meets its contract. Invariant: a channel is marked, or is unmasked by an entry that is left,
-- exactly where the table unmasks it.
-- Assumes nothing.
use mathlib.Core.Path.{◌≡◌}
use lib.ListN.{length}
use Rattle.masking.proofs.Plays.{Marked-to}
use Rattle.masking.proofs.unmasked.Given as goal

abbrev pub invariant-loop-e : goal.invariant-loop-e
invariant-loop-e l = (length l.out ≡ 256) × Marked-to l.polyphony l.e-items l.e-index l.out

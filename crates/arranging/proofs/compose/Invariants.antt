-- `arranging::compose` meets its contract. Invariant: the first i bytes are those of the message.
-- Assumes nothing.
use mathlib.Core.Path.{◌≡◌}
use mathlib.Core.List.{◌++◌}
use lib.ListN.{length, drop, get_or}
use Rattle.loops.specs.Passes.{up_to}
use Rattle.arranging.specs.Arranging.{listing, mip_message}
use Rattle.arranging.proofs.compose.Given as goal

abbrev pub invariant-loop-i : goal.invariant-loop-i
invariant-loop-i l =
    (length l.initial.out ≡ 38)
    × (l.out ≡ up_to (λ j. get_or (mip_message (listing l.order l.most)) j 0) l.i ++ drop l.i l.initial.out)

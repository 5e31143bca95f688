-- `service::busy_counts` meets its contract. Invariant: the counts are those of the first g generators.
-- Assumes nothing.
use Rattle.service.proofs.Count.{Counted}
use Rattle.service.proofs.busy_counts.Given as goal

abbrev pub invariant-loop-g : goal.invariant-loop-g
invariant-loop-g l = Counted l.s.state l.s.channel l.g l.out

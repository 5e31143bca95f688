-- `candidates::busy_count` meets its contract, by the count of those wanted.
-- Assumes nothing.
use Rattle.candidates.specs.Candidates.{wanted, busy_count}
use Rattle.candidates.proofs.busy_count.Goals as goal

pub returns : goal.returns
unfolding busy_count wanted
returns c = c.how_many.ensures

-- `releases::selects` meets its contract, by what `is_one_of` says of the key.
-- Assumes nothing.
use Rattle.releases.specs.Selection.{selects}
use Rattle.releases.proofs.selects.Goals as goal

pub returns : goal.returns
unfolding selects
returns c = simp c.is_one_of.ensures

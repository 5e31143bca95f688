-- `gains::weight_at` meets its contract: the table is that of the definition, and no weight is above the last
-- (`Weights`).
-- Assumes nothing.
use mathlib.Core.Path.{refl}
use Rattle.gains.specs.Gains.{weight}
use Rattle.gains.proofs.Weights.{at_most_lem}
use borrow.Author.Rules.{rules}
use Rattle.gains.proofs.weight_at.Goals as goal

pub returns : goal.returns
unfolding weight
returns c = (refl, at_most_lem c.args.p (search rules))

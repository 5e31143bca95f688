-- `generators::Generators::silent` meets its contract, by computation.
-- Assumes nothing.
use mathlib.Core.Path.{refl}
use Rattle.loops.specs.Passes.{padded}
use Rattle.ages.specs.Ages.{ages_of}
use Rattle.generators.specs.Generators.{silent}
use Rattle.generators.proofs.Generators.silent.Goals as goal

pub returns : goal.returns
unfolding silent ages_of padded
returns c = refl

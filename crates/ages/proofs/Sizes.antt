-- The length of the array in a record of ages, from what owning one tells.
-- Assumes nothing.
use mathlib.Core.Path.{◌≡◌}
use mathlib.Core.List.{List}
use mir.Val.{Val}
use denote.Laws.{Is}
use lib.ListN.{length}
use Rattle.ages.specs.declared.Ages.{Ages}
use Rattle.ages.specs.contracts.Ages as T

pub generator_64 : (a : Ages) {vs : List Val} → Is T.the_row a vs → length a.generator ≡ 64
generator_64 a g = g.1.1.1.0.1.0.1

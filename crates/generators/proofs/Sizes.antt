-- The length of an array in the generators' record, from what owning one tells.
-- Assumes nothing.
use mathlib.Core.Path.{◌≡◌}
use mathlib.Core.List.{List}
use mir.Val.{Val}
use denote.Laws.{Is}
use lib.ListN.{length}
use Rattle.generators.specs.declared.Generators.{Generators}
use Rattle.generators.specs.contracts.Generators as T

module _ (s : Generators) {vs : List Val} (i : Is T.the_row s vs) where
  pub state_64 : length s.state ≡ 64
  state_64 = i.1.1.0.1.0.1

-- `releases::apply` meets its contract: the states are those of the pass, which selects what the change means, and the
-- rest stays.
-- Assumes nothing.
use Rattle.std.specs.Prelude.{if◌then◌else◌}
use mathlib.Core.Path.{ap}
use mathlib.Core.Bool.{Bool}
use Rattle.loops.proofs.Fill.{up_to-same}
use Rattle.generators.specs.Generators.{at}
use Rattle.releases.specs.Releases.{state_after, with_states, changed}
use Rattle.releases.proofs.apply.Goals as goal

pub returns : goal.returns
unfolding changed
returns c =
    let a = c.args in
    simp (c.states_after-state.ensures, c.state_after.ensures)
    (ap (with_states a.generators)
    (up_to-same _ _ 64 (λ g k. ap (λ (b : Bool). if b then state_after a.change else (at a.generators g).state)
    (c.select.ensures (at a.generators g)))))

-- `releases::states_after` meets its contract: each element that `from_fn` makes is that of the rule.
-- Assumes nothing.
use Rattle.std.specs.Prelude.{if◌then◌else◌}
use Rattle.std.proofs.Common.{rules, ℕ, List, get_or}
use Rattle.loops.proofs.Fill.{made_up_to}
use Rattle.generators.specs.Generators.{generator}
use Rattle.releases.specs.declared.Selection.{Selection}
use Rattle.releases.specs.Selection.{selects}
use Rattle.releases.proofs.states_after.Goals as goal

-- the state of generator g afterwards
abbrev rule : Selection → ℕ → List ℕ → List ℕ → List ℕ → ℕ → ℕ
rule w to state channel keys g =
    if selects w (generator (get_or state g 0) (get_or channel g 0) (get_or keys g 0)) then to else get_or state g 0

pub returns : goal.returns
returns c =
    let a = c.args in
    made_up_to _ _ (rule a.w a.to a.state a.channel a.keys) (λ i y q k. (search rules, search rules)) 0 _ 64 c.from_fn.ensures.items

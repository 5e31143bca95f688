-- `silence::unmarked` meets its contract: each element that `from_fn` makes is that of the rule.
-- Assumes nothing.
use Rattle.std.specs.Prelude.{if◌then◌else◌}
use Rattle.std.proofs.Common.{rules, ℕ, List, eqb, get_or}
use Rattle.loops.proofs.Fill.{made_up_to}
use Rattle.silence.proofs.unmarked.Goals as goal

-- the number of generator g afterwards
abbrev rule : List ℕ → List ℕ → ℕ → ℕ
rule numbers marks g = if eqb (get_or marks g 0) 0 then get_or numbers g 0 else 0

pub returns : goal.returns
returns c =
    made_up_to _ _ (rule c.args.numbers c.args.marks) (λ i y q k. (search rules, k.met.1)) 0 _ 64
    c.from_fn.ensures.items

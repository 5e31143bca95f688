-- `candidates::stolen_first` meets its contract, by the count of the sustained ones.
-- Assumes nothing.
use mathlib.Core.Path.{sym, ◌∙◌}
use borrow.Author.Tests.{eq-eqb, ne_eqb}
use Rattle.candidates.specs.Candidates.{wanted, stolen_first}
use Rattle.candidates.proofs.stolen_first.Goals as goal

pub returns-then-how_many-eq0 : goal.returns-then-how_many-eq0
unfolding stolen_first wanted
returns-then-how_many-eq0 c =
    let n = c.how_many.ensures.0 in
    rw (eq-eqb _ _ (sym n ∙ c.if-how_many-eq0.true))

pub returns : goal.returns
unfolding stolen_first wanted
returns c =
    let n = c.how_many.ensures.0 in
    rw (ne_eqb _ _ (λ e. c.if-how_many-eq0.false (n ∙ e)))

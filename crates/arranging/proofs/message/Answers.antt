-- `arranging::message` meets its contract: one part is the whole log.
-- Assumes nothing.
use mathlib.Core.Path.{ap, ◌∙◌}
use Rattle.arranging.specs.declared.Run.{Run}
use Rattle.arranging.specs.Run.{heard, finished}
use Rattle.arranging.proofs.Parts.{parts}
use Rattle.arranging.proofs.message.Goals as goal

pub returns : goal.returns
returns c =
    let a = c.args in
    c.end.ensures
    ∙ ap finished
    (c.take.ensures ∙ ap (λ (r : Run). heard r a.log.now) c.begin.ensures)
    ∙ parts a.order.now a.log.now

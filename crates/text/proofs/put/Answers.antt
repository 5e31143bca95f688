-- `text::put`: before the byte at an index the bytes before it are put.
-- Assumes nothing.
use mathlib.Core.Path.{refl, ◌∙◌}
use Rattle.text.proofs.Joined.{nothing_put, put_next, put_end}
use Rattle.text.proofs.put.Goals as goal

pub loop-b-init : goal.loop-b-init
loop-b-init c = (refl, nothing_put _ _)

pub loop-b-preserved : goal.loop-b-preserved
loop-b-preserved c =
    let i = c.loop-b.invariant in
    let p = c.put_byte-k in (p.auto.page ∙ i.0, put_next _ _ i.1 c.loop-b-test.true p.ensures)

pub returns : goal.returns
returns c = put_end _ _ c.loop-b.invariant.1 c.loop-b-test.false

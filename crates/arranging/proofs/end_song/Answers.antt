-- `arranging::end_song` meets its contract: the code's test is the definition's.
-- Assumes nothing.
use borrow.Author.Tests.{eq-eqb, ne_eqb}
use Rattle.arranging.specs.Run.{ended_by}
use Rattle.arranging.proofs.end_song.Goals as goal

pub returns-then-n-ne0 : goal.returns-then-n-ne0
unfolding ended_by
returns-then-n-ne0 c = simp (ne_eqb _ _ c.if-n-ne0.true, c.refuse.ensures, c.number.ensures, c.one_more.ensures)

pub returns : goal.returns
unfolding ended_by
returns c = simp (eq-eqb _ _ c.if-n-ne0.false, c.compose.ensures)

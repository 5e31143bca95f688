-- `event_line::Line::push` meets its contract: below 7 the byte goes to the place of the count, from 7 on nothing
-- changes.
-- Assumes nothing.
use borrow.Author.Tests.{lt-ltb, le-ltb}
use Rattle.event_line.specs.Log.{put}
use Rattle.event_line.proofs.Line.push.Goals as goal

pub returns-then-count-ge7 : goal.returns-then-count-ge7
unfolding put
returns-then-count-ge7 c = simp (le-ltb _ _ c.if-count-ge7.true)

pub returns : goal.returns
unfolding put
returns c = simp (lt-ltb _ _ c.if-count-ge7.false, c.from.ensures)

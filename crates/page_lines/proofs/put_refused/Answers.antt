-- `page_lines::put_refused`: the number, and the line's end behind it.
-- Assumes nothing.
use Rattle.text.proofs.Joined.{joined}
use Rattle.page_lines.specs.PageLines.{number_line}
use Rattle.page_lines.proofs.put_refused.Goals as goal

pub returns : goal.returns
unfolding number_line
returns c = joined (rw (c.from.ensures, c.number.ensures) at c.put_number-k.ensures) c.put.ensures

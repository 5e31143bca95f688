-- `lines::put_field`: a comma, and the number behind it.
-- Assumes nothing.
use Rattle.text.proofs.Joined.{joined}
use Rattle.lines.specs.Lines.{field}
use Rattle.lines.proofs.put_field.Goals as goal

pub returns : goal.returns
unfolding field
returns c =
    joined c.put-k.ensures (rw c.from.ensures at c.put_number.ensures)

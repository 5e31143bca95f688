-- `lines::put_no_note`: four texts one behind the other.
-- Assumes nothing.
use Rattle.text.proofs.Joined.{joined}
use Rattle.lines.proofs.put_no_note.Goals as goal

pub returns : goal.returns
returns c = joined (joined (joined
    c.put_field-a.ensures
    c.put_field-b.ensures)
    c.put_field-c.ensures) c.put.ensures

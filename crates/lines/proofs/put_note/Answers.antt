-- `lines::put_note`: five texts one behind the other.
-- Assumes nothing.
use Rattle.text.proofs.Joined.{joined}
use Rattle.lines.proofs.put_note.Goals as goal

pub returns : goal.returns
returns c = joined (joined (joined (joined
    c.put-a.ensures
    c.put_field-b.ensures)
    c.put_field-c.ensures)
    c.put_field-d.ensures) c.put_was.ensures

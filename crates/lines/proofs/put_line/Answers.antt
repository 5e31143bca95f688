-- `lines::put_line`: nothing, or the offset and what follows it in the answer's case.
-- Assumes nothing.
use Rattle.text.proofs.Joined.{nothing_put, joined}
use Rattle.lines.specs.Lines.{line_of}
use Rattle.lines.proofs.put_line.Goals as goal

pub returns-in-Nothing : goal.returns-in-Nothing
unfolding line_of
returns-in-Nothing c = rw c.in-Nothing.is (nothing_put _ _)

pub returns-in-Done : goal.returns-in-Done
unfolding line_of
returns-in-Done c = rw c.in-Done.is
    (joined c.put_offset-k.ensures
    c.put.ensures)

pub returns-in-Note : goal.returns-in-Note
unfolding line_of
returns-in-Note c = rw c.in-Note.is
    (joined c.put_offset-k-in-Note.ensures
    c.put_note.ensures)

pub returns-in-NoNote : goal.returns-in-NoNote
unfolding line_of
returns-in-NoNote c = rw c.in-NoNote.is
    (joined c.put_offset-k-in-NoNote.ensures
    (rw c.number.ensures at c.put_no_note.ensures))

pub returns-in-Number : goal.returns-in-Number
unfolding line_of
returns-in-Number c = rw c.in-Number.is
    (joined c.put_offset-k-in-Number.ensures
    (joined (rw c.number-in-Number.ensures at c.put_field-m.ensures)
    c.put-in-Number.ensures))

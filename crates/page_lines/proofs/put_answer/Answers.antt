-- `page_lines::put_answer`: what is put stands there whole, the service page and the line of a number.
-- Assumes nothing.
use Rattle.page_lines.specs.PageLines.{answer_text}
use Rattle.page_lines.proofs.Room.{line-whole, page-whole}
use Rattle.page_lines.proofs.put_answer.Goals as goal

pub returns-in-Midi : goal.returns-in-Midi
unfolding answer_text
returns-in-Midi c =
    let w = c.put_page.ensures in
    rw c.in-Midi.is (record { answer_put = w; page_after = λ h. page-whole _ _ _ _ w.0 w.1 h })

pub returns-in-Refused : goal.returns-in-Refused
unfolding answer_text
returns-in-Refused c =
    let w = c.put_refused.ensures in
    rw c.in-Refused.is (record { answer_put = w; page_after = λ h. line-whole _ _ w h })

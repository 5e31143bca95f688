-- `service::write_page` meets its contract: where there is room the head and the lines stand in the buffer, and the
-- rest is as it was.
-- Assumes nothing.
use Rattle.service.specs.Page.{head}
use Rattle.service.proofs.Lines.{page_none, page-whole}
use Rattle.service.proofs.write_page.Goals as goal

pub returns-then-page-lt323 : goal.returns-then-page-lt323
returns-then-page-lt323 c = page_none c.args.d c.args.page.now c.if-page-lt323.true

pub returns : goal.returns
unfolding head
returns c =
    let rows = c.put_rows in
    let counts = c.busy_counts in
    let left = c.if-page-lt323.false in
    let a = c.args in
    page-whole a.d a.page.now _ _ counts.result left c.put.ensures counts.ensures rows.ensures

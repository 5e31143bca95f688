-- `service::put_rows` meets its contract. Invariant: the lines of the channels before c stand behind the head, and the
-- rest of the page is as it was.
-- Assumes nothing.
use mathlib.Core.Path.{◌≡◌}
use native.Mathlib.Omega.{arith}
use lib.ListN.{get_or}
use Rattle.table.specs.Table.{entries_of}
use Rattle.service.specs.Page.{row}
use Rattle.service.proofs.Lines.{first_rows, next_channel}
use Rattle.service.proofs.put_rows.Goals as goal

pub loop-c-init : goal.loop-c-init
loop-c-init c =
    let a = c.args in
    first_rows (entries_of a.t) a.p (λ n. get_or a.busy n 0) a.page.now c.requires

pub loop-c-preserved : goal.loop-c-preserved
unfolding row
loop-c-preserved c =
    let l = c.loop-c in
    let a = c.args in
    next_channel (entries_of a.t) a.p (λ n. get_or a.busy n 0) a.page.now c.requires l.c l.page _ _
    l.auto.c l.invariant c.line.ensures c.put.ensures

pub returns : goal.returns
returns c =
    let l = c.loop-c in
    let e : l.c ≡ 17 = omega arith in
    rw e at l.invariant

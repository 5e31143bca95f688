-- `service::put_rows` meets its contract. Invariant: the lines of the channels before c stand behind the head, and the
-- rest of the page is as it was.
-- Assumes nothing.
use Prim.Native.Nat.{◌-◌}
use lib.ListN.{get_or}
use Rattle.table.specs.Table.{entries_of}
use Rattle.service.proofs.Lines.{Rows}
use Rattle.service.proofs.put_rows.Given as goal

abbrev pub invariant-loop-c : goal.invariant-loop-c
invariant-loop-c l = Rows (entries_of l.t) l.p (λ c. get_or l.busy c 0) l.initial.page (l.c - 1) l.page

-- `log_lines::read_order`: the invariant is that what is left of the bytes, read by what is kept, is all of them.
-- Assumes nothing.
use mathlib.Core.Path.{◌≡◌}
use lib.ListN.{drop}
use Rattle.log_lines.specs.declared.Reading.TheVariants.{Order}
use Rattle.log_lines.specs.LogLines.{bytes_read}
use Rattle.log_lines.proofs.read_order.Given as goal

abbrev pub invariant-loop-i : goal.invariant-loop-i
invariant-loop-i l = bytes_read (Order l.order) (drop l.i l.bytes) ≡ bytes_read (Order l.fn.c) l.bytes

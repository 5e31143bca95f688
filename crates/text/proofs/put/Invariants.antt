-- `text::put`: before the byte at an index the bytes before it are put.
-- Assumes nothing.
use mathlib.Core.Path.{◌≡◌}
use lib.ListN.{length, take}
use Rattle.text.specs.Text.{Put}
use Rattle.text.proofs.put.Given as goal

abbrev pub invariant-loop-b : goal.invariant-loop-b
invariant-loop-b l =
    (length l.page ≡ length l.initial.page) × Put l.initial.page l.at (take l.b-index l.text) l.k l.page

-- The array of the message has the length of its type.
-- Assumes nothing.
use mathlib.Core.Path.{◌≡◌}
use mathlib.Core.List.{List}
use mir.Val.{Val}
use denote.Laws.{Is}
use lib.ListN.{length}
use Rattle.arranging.specs.declared.Written.{Written}
use Rattle.arranging.specs.contracts.Written as written

pub bytes_38 : (w : Written) {vs : List Val} → Is written.the_row w vs → length w.bytes ≡ 38
bytes_38 w g = g.1.1.1.1.0.1.0.1

-- A parser that a function owns holds 37 bytes: what owning one tells, for callers whose reads or lists need the
-- length.
-- Assumes nothing.
use mathlib.Core.Path.{◌≡◌}
use mathlib.Core.List.{List}
use mir.Val.{Val}
use denote.Laws.{Is}
use lib.ListN.{length}
use Rattle.splitter.specs.declared.Parser.{Parser}
use Rattle.splitter.specs.contracts.Parser as T

pub bytes_37 : (p : Parser) {vs : List Val} → Is T.the_row p vs → length p.bytes ≡ 37
bytes_37 p g = g.1.1.1.1.0.1.0.1

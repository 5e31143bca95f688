-- The array of a table has sixteen entries, from what owning a table tells.
-- Assumes nothing.
use mathlib.Core.Path.{◌≡◌}
use mathlib.Core.List.{List}
use mir.Val.{Val}
use denote.Laws.{Is}
use lib.ListN.{length}
use Rattle.table.specs.declared.Table.{Table}
use Rattle.table.specs.contracts.Table as T

pub entries_16 : (t : Table) {vs : List Val} → Is T.the_row t vs → length t.entries ≡ 16
entries_16 t g = g.1.1.1.0.1.0.1

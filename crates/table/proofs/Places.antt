-- Entries and the table of them: what stands in the sixteen places.
-- Assumes nothing.
use mathlib.Core.Path.{◌≡◌}
use mathlib.Core.List.{List}
use Prim.Native.Nat.{◌≤◌}
use lib.ListN.{length}
use Rattle.loops.proofs.Padded.{padded-take}
use Rattle.table.specs.declared.Entry.{Entry}
use Rattle.table.specs.Table.{entry, entries_of, table_of}

-- the entries of the table of a list are that list
pub entries_of-table : (l : List Entry) → length l ≤ 16 → entries_of (table_of l) ≡ l
unfolding table_of
entries_of-table l h = padded-take (entry 0 0) 16 l h

-- What holds of an accepted MIP message: the words of the law in proofs/Accepted.antt.
use Rattle.std.specs.Prelude.{ℕ, ◌≡◌, List}
use Rattle.table.specs.declared.Table.{Table}
use Rattle.table.specs.Laws.{WellFormed}
use Rattle.table.specs.Table.{entries_of, table_of}
use Rattle.mip.specs.Mip.{pairs}

-- its bytes after 0B 01 are l: its table t is the message itself, at most sixteen channels, none listed twice, with
-- values that never fall
pub record AcceptedTable (l : List ℕ) (t : Table) : Type 0 where
  pub table : t ≡ table_of (pairs l)
  pub entries : entries_of t ≡ pairs l
  pub well_formed : WellFormed (pairs l)

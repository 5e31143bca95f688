-- A pass over the first entries of a table's array is one over the table's entries.
-- Assumes nothing.
use mathlib.Core.Path.{◌≡◌, ap, ◌∙◌}
use Prim.Native.Nat.{ℕ}
use lib.ListN.{length, take}
use Rattle.loops.specs.Cases.{at_most}
use Rattle.loops.proofs.Padded.{take-at_most}
use Rattle.table.specs.declared.Table.{Table}
use Rattle.table.specs.Table.{entries_of}

-- going as far as the count, or to 16 where it is above, is going over all entries
pub all_entries : (t : Table) (n : ℕ) → length t.entries ≡ 16
    → n ≡ at_most 16 t.count → take n t.entries ≡ entries_of t
all_entries t n e q = ap (λ (m : ℕ). take m t.entries) q ∙ take-at_most 16 t.count t.entries e

-- R2.1: the MIP table.
-- Assumes nothing.
use Rattle.std.specs.Prelude.{ℕ, Bool, false, ◌||◌, List, [], ◌∷◌, map, length, take, ◌+◌, eqb, ltb, if◌then◌else◌}
use Rattle.loops.specs.Cases.{bit}
use Rattle.loops.specs.Passes.{padded}
use Rattle.table.specs.declared.Entry.{Entry}
use Rattle.table.specs.declared.Table.{Table}

abbrev pub entry : ℕ → ℕ → Entry
entry c v = record { channel = c; value = v }

-- the entries of a table, and the table of a list of at most sixteen entries
abbrev pub entries_of : Table → List Entry
entries_of t = take t.count t.entries

unfoldable pub table_of : List Entry → Table
table_of l = record { count = length l; entries = padded 16 (entry 0 0) l }

-- R2.6: the starting table
abbrev pub start_order : List ℕ
start_order = 10 ∷ 1 ∷ 2 ∷ 3 ∷ 4 ∷ 5 ∷ 6 ∷ 7 ∷ 8 ∷ 9 ∷ 11 ∷ 12 ∷ 13 ∷ 14 ∷ 15 ∷ 16 ∷ []

-- the channel at a place, counted from 0: 10 first, then the others by number, so that places 1 to 9 have their own
-- number and those behind them one more
abbrev pub start_channel : ℕ → ℕ
start_channel i = if eqb i 0 then 10 else i + bit (ltb 9 i)

unfoldable pub start_table : ℕ → Table
start_table p = table_of (map (λ (c : ℕ). entry c p) start_order)

-- whether a channel is listed
unfoldable pub listed : ℕ → List Entry → Bool
listed c [] = false
listed c (e ∷ l) = eqb c e.channel || listed c l

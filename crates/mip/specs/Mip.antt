-- How a MIP message is judged (R3.3 to R3.5). It is given as its data bytes after 0B 01.
use Rattle.std.specs.Prelude.{ℕ, ◌+◌, ◌%◌, ◌||◌, List, [], ◌∷◌, ◌++◌, length, eqb, ltb, if◌then◌else◌, Result, Ok, Err}
use Rattle.std.proofs.Math.Option.{Option, some, none}
use Rattle.refusals.specs.declared.Refusal.{Refusal}
use Rattle.refusals.specs.declared.Refusal.TheVariants as refusal
use Rattle.table.specs.declared.Entry.{Entry}
use Rattle.table.specs.declared.Table.{Table}
use Rattle.table.specs.Table.{entry, table_of, listed}

-- R3.1: a pair is the channel minus 1 and its value; R2.1: by falling priority
unfoldable pub pairs : List ℕ → List Entry
pairs [] = []
pairs (m ∷ []) = []
pairs (m ∷ v ∷ l) = entry (m + 1) v ∷ pairs l

-- R3.5: pair by pair, the first fault decides: R8.7, no channel; R8.8, a channel listed twice; R8.9, a value below
-- the one before, which is v
unfoldable pub faulty : List Entry → ℕ → List Entry → Option Refusal
faulty before v [] = none
faulty before v (e ∷ l) =
    if ltb 16 e.channel then some refusal.MipNoChannel else
    if listed e.channel before then some refusal.MipListedTwice else
    if ltb e.value v then some refusal.MipFallingValue else
    faulty (before ++ (e ∷ [])) e.value l

-- R3.8, R2.7: without a fault, it is the table
abbrev pub judged_by : List Entry → Option Refusal → Result Table Refusal
judged_by l none = Ok (table_of l)
judged_by l (some r) = Err r

abbrev pub judged_pairs : List Entry → Result Table Refusal
judged_pairs l = judged_by l (faulty [] 0 l)

-- the whole message; R3.4: R8.5, too many bytes, before R8.6, none or an odd number, before the pairs
unfoldable pub judged : List ℕ → Result Table Refusal
judged l =
    if ltb 32 (length l) then Err refusal.MipTooLong else
    if eqb (length l) 0 || eqb (length l % 2) 1 then Err refusal.MipOddLength else
    judged_pairs (pairs l)

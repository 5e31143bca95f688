-- Which channels of a table are unmasked among P generators, and with which share (R2.2 to R2.5).
-- Assumes nothing.
use Rattle.std.specs.Prelude.{ℕ, ◌+◌, ◌-◌, Bool, ◌&&◌, List, [], ◌∷◌, eqb, leb, if◌then◌else◌, Option, Some, None, is_none}
use Rattle.table.specs.declared.Entry.{Entry}
use Rattle.table.specs.declared.Table.{Table}
use Rattle.table.specs.Table.{entry, entries_of}

-- R2.2, R2.4: the unmasked channels by falling priority, each with its share in place of its value; v is the value
-- before the first entry
unfoldable pub shares_from : ℕ → ℕ → List Entry → List Entry
shares_from p v [] = []
shares_from p v (e ∷ l) =
    if leb e.value p
    then entry e.channel (e.value - v) ∷ shares_from p e.value l
    else shares_from p e.value l

abbrev pub shares : ℕ → Table → List Entry
shares p t = shares_from p 0 (entries_of t)

-- what all shares come to
abbrev pub sum : List Entry → ℕ
sum [] = 0
sum (e ∷ l) = e.value + sum l

-- what stands beside a channel
unfoldable pub lookup : ℕ → List Entry → Option ℕ
lookup c [] = None
lookup c (e ∷ l) = if eqb c e.channel then Some e.value else lookup c l

-- R2.3, R2.5: the share of a channel; what is not among them is masked, and has none
unfoldable pub share_of : Table → ℕ → ℕ → Option ℕ
share_of t p c = lookup c (shares p t)

abbrev pub is_masked : Option ℕ → Bool
is_masked s = is_none s

-- whether a number is a channel's
abbrev pub is_channel : ℕ → Bool
is_channel c = leb 1 c && leb c 16

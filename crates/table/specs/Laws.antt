-- What holds of a table that a MIP message gave, and of every starting table: the words of the laws in proofs/.
-- Assumes nothing.
use Rattle.std.specs.Prelude.{ℕ, ◌≤◌, ◌≡◌, false, List, [], ◌∷◌, length}
use Rattle.table.specs.declared.Entry.{Entry}
use Rattle.table.specs.Table.{listed}

-- values never fall, from v on
abbrev pub Rising : ℕ → List Entry → Type 0
Rising v [] = Unit {0}
Rising v (e ∷ l) = (v ≤ e.value) × Rising e.value l

-- no channel is listed twice
abbrev pub Distinct : List Entry → Type 0
Distinct [] = Unit {0}
Distinct (e ∷ l) = (listed e.channel l ≡ false) × Distinct l

-- each is a channel
abbrev pub Channels : List Entry → Type 0
Channels [] = Unit {0}
Channels (e ∷ l) = ((1 ≤ e.channel) × (e.channel ≤ 16)) × Channels l

-- what holds of the entries of every starting table and of every accepted MIP message
pub record WellFormed (l : List Entry) : Type 0 where
  pub short : length l ≤ 16
  pub rising : Rising 0 l
  pub distinct : Distinct l
  pub channels : Channels l

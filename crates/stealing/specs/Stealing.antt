-- Step 5 of a note-on: the channel to steal from, and the generator that is stolen.
use Rattle.std.specs.Prelude.{ℕ, ◌+◌, List, [], ◌∷◌, eqb, ltb, if◌then◌else◌, Option, Some, None}
use Rattle.std.proofs.Math.Option as maybe
use Rattle.loops.specs.Cases.{bit, given}
use Rattle.table.specs.declared.Entry.{Entry}
use Rattle.table.specs.declared.Table.{Table}
use Rattle.shares.specs.Shares.{shares}
use Rattle.generators.specs.declared.Generators.{Generators}
use Rattle.candidates.specs.Candidates.{oldest, stolen_first, busy_count}

-- R5.7: the busy generators of channel c, with the new note, which is one of channel new
abbrev pub counted : Generators → ℕ → ℕ → ℕ
counted s new c = busy_count s c + bit (eqb c new)

abbrev pub otherwise : maybe.Option ℕ → maybe.Option ℕ → maybe.Option ℕ
otherwise (maybe.some c) o = maybe.some c
otherwise maybe.none o = o

-- R5.8: of the channels over their share the one of lowest priority: the last one in the list of shares whose count n
-- is above its share
unfoldable pub over_share : (ℕ → ℕ) → List Entry → maybe.Option ℕ
over_share n [] = maybe.none
over_share n (e ∷ l) = otherwise (over_share n l) (if ltb e.value (n e.channel) then maybe.some e.channel else maybe.none)

unfoldable pub steal_from : Generators → Table → ℕ → ℕ → Option ℕ
steal_from s t p new = given (over_share (counted s new) (shares p t))

-- R5.9: its oldest sustained generator, and its oldest held one where it has none sustained; R5.10: there may be none
abbrev pub loses : Generators → Option ℕ → Option ℕ
loses s (Some d) = oldest (stolen_first s d) s
loses s None = None

-- step 5 whole: the generator that a new note of this channel steals, where all are busy
unfoldable pub victim : Generators → Table → ℕ → ℕ → Option ℕ
victim s t p new = loses s (steal_from s t p new)

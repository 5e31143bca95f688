-- R1.6: the older of two sounding generators was assigned earlier, in a history of any length.
use Rattle.std.specs.Prelude.{ℕ, ◌<◌, ◌≡◌, List, [], ◌∷◌, ◌++◌}
use Rattle.loops.specs.Passes.{filter_by}
use Rattle.ages.specs.Ages.{oldest_first, other_than}
use Rattle.generators.specs.declared.Generators.{Generators}
use Rattle.generators.specs.Generators.{at, is_sounding, assigned, silent}
use Rattle.releases.specs.declared.Change.{Change}
use Rattle.releases.specs.Releases.{changed}
use Rattle.silence.specs.declared.Leaving.{Leaving}
use Rattle.silence.specs.Silence.{silenced}

-- what can befall the generators
pub data Act : Type 0 where
  assign : (g c k : ℕ) → g < 64 → Act
  change : Change → Act
  silence : Leaving → Act

abbrev pub done : Act → Generators → Generators
done (assign g c k h) s = assigned g c k s
done (change h) s = changed h s
done (silence l) s = silenced l s

-- the generators after a history, the latest act first
abbrev pub after : List Act → Generators
after [] = silent
after (a ∷ l) = done a (after l)

-- the generators that a history assigned, each at its last assignment, the earliest first
abbrev pub by_last : List Act → List ℕ
by_last [] = []
by_last (assign g c k h ∷ l) = filter_by (other_than g) (by_last l) ++ (g ∷ [])
by_last (change h ∷ l) = by_last l
by_last (silence x ∷ l) = by_last l

-- the record's order is that of the last assignments of all that still sound
abbrev pub ByAssignment : List Act → Type 0
ByAssignment l = oldest_first (after l).ages ≡ filter_by (λ g. is_sounding (at (after l) g)) (by_last l)

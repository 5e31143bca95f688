-- R1.6, R1.7: age, as the order in which the sounding generators were assigned.
use Rattle.std.specs.Prelude.{ℕ, ◌+◌, Bool, not, List, [], ◌∷◌, ◌++◌, length, get_or, set, take, eqb, ltb, if◌then◌else◌}
use Rattle.loops.specs.Passes.{filter_by, padded}
use Rattle.ages.specs.declared.Ages.{Ages}

-- the generators by age, the oldest first
abbrev pub oldest_first : Ages → List ℕ
oldest_first a = take a.count a.generator

-- the record of such a list, which has room for 64
unfoldable pub ages_of : List ℕ → Ages
ages_of l = record { count = length (take 64 l); generator = padded 64 0 l }

-- a generator without a mark
abbrev pub unmarked : List ℕ → ℕ → Bool
unmarked marks g = eqb (get_or marks g 0) 0

-- R1.7: the marked generators are no longer sounding; the others keep their order
unfoldable pub without : Ages → List ℕ → Ages
without a marks = ages_of (filter_by (unmarked marks) (oldest_first a))

-- one generator more, the newest, where there is room
unfoldable pub pushed : Ages → ℕ → Ages
pushed a g =
    if ltb a.count 64
    then record { count = a.count + 1; generator = set a.generator a.count g }
    else a

abbrev pub other_than : ℕ → ℕ → Bool
other_than g h = not (eqb h g)

-- R5.11: generator g is assigned anew, and is the newest; R1.6: the others keep their order
unfoldable pub newest : Ages → ℕ → Ages
newest a g = if ltb g 64 then ages_of (filter_by (other_than g) (oldest_first a) ++ (g ∷ [])) else a

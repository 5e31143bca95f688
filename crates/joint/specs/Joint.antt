-- R14.5: the busy generators of a channel and of those before it in the order, and the largest number seen.
-- Assumes nothing.
use Rattle.std.specs.Prelude.{ℕ, ◌+◌, Bool, false, ◌&&◌, ◌||◌, List, [], ◌∷◌, eqb, ltb, take, get_or, if◌then◌else◌}
use Rattle.loops.specs.Cases.{bit}
use Rattle.loops.specs.Passes.{up_to, total}
use Rattle.generators.specs.declared.Generators.{Generators}
use Rattle.generators.specs.Generators.{at, is_busy}

abbrev pub among : ℕ → List ℕ → Bool
among c [] = false
among c (x ∷ l) = eqb c x || among c l

-- the number of busy generators on some channels
unfoldable pub busy_on : List ℕ → Generators → ℕ
busy_on channels s = total (λ g. bit (is_busy (at s g) && among (at s g).channel channels)) 64

-- those of the channel at place k of the order, from 0, and of the ones before it
abbrev pub joint_count : List ℕ → Generators → ℕ → ℕ
joint_count order s k = busy_on (take (k + 1) order) s

abbrev pub larger : ℕ → ℕ → ℕ
larger a b = if ltb a b then b else a

-- the largest joint counts so far, with these generators
unfoldable pub raised : List ℕ → List ℕ → Generators → List ℕ
raised order most s = up_to (λ k. larger (get_or most k 0) (joint_count order s k)) 16

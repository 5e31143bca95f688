-- What is left without the marked generators: a generator is marked if it leaves, and a number that is no generator
-- never is.
-- Assumes nothing.
use Rattle.std.specs.Prelude.{if◌then◌else◌}
use mathlib.Core.Path.{◌≡◌, refl}
use mathlib.Core.Bool.{Bool, true, false, not}
use mathlib.Core.List.{List}
use Prim.Native.Nat.{ℕ, ◌≤◌}
use native.Mathlib.Omega.{arith}
use lib.Dec.{eqb}
use lib.ListN.{length, get_or, get_or-eq_default}
use Rattle.loops.specs.Passes.{up_to, marks_of}
use Rattle.loops.proofs.Fill.{up_to-same}
use Rattle.loops.proofs.Marks.{no_mark}
use Rattle.loops.proofs.Search.{filter_same}
use Rattle.ages.specs.Ages.{oldest_first, unmarked, without}
use Rattle.generators.specs.declared.Generators.{Generators}
use Rattle.silence.specs.declared.Leaving.{Leaving}
use Rattle.generators.specs.Generators.{generator, at}
use Rattle.silence.specs.Silence.{leaves, goes, silenced}

-- beyond the generators nothing leaves
pub none_leaves : (l : Leaving) (state channel keys : List ℕ) → length state ≡ 64 → (g : ℕ)
    → 64 ≤ g → leaves l g (generator (get_or state g 0) (get_or channel g 0) (get_or keys g 0)) ≡ false
unfolding leaves
none_leaves l state channel keys h g k = rw (get_or-eq_default state 0 {n = g} (omega arith))

module _ (l : Leaving) (s : Generators) (h : length s.state ≡ 64) where
  abbrev marks : List ℕ
  marks = marks_of (goes l s)

  marked : (g : ℕ) → unmarked marks g ≡ not (goes l s g)
  marked = no_mark (goes l s) 64 (none_leaves l s.state s.channel s.key h) (omega arith)

  left : (f : ℕ → ℕ)
      → up_to (λ g. if eqb (get_or marks g 0) 0 then f g else 0) 64 ≡ up_to (λ g. if goes l s g then 0 else f g) 64
  left f = up_to-same _ _ 64 (λ g k. rw (marked g) (turn (goes l s g) (f g)))
    where
      turn : (b : Bool) (n : ℕ) → (if not b then n else 0) ≡ (if b then 0 else n)
      turn true n = refl
      turn false n = refl

  pub silence_of : record {
    state = up_to (λ g. if eqb (get_or marks g 0) 0 then (at s g).state else 0) 64;
    channel = up_to (λ g. if eqb (get_or marks g 0) 0 then (at s g).channel else 0) 64;
    key = up_to (λ g. if eqb (get_or marks g 0) 0 then (at s g).key else 0) 64;
    ages = without s.ages marks;
  }
      ≡ silenced l s
  unfolding silenced without
  silence_of =
      rw (
        left (λ (g : ℕ). (at s g).state),
        left (λ (g : ℕ). (at s g).channel),
        left (λ (g : ℕ). (at s g).key),
        filter_same (unmarked marks) (λ (g : ℕ). not (goes l s g)) (oldest_first s.ages) marked,
      )

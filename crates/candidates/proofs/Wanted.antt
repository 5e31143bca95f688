-- Marks of the generators that are wanted: what holds of a mark by its number.
-- Assumes nothing.
use mathlib.Core.Path.{◌≡◌, refl, sym, ap, ◌∙◌}
use mathlib.Core.Bool.{Bool, true, false, not}
use mathlib.Core.List.{List}
use mathlib.Core.Option.{none}
use Prim.Native.Nat.{ℕ, zero, suc, ◌≤◌, ◌<◌}
use native.Mathlib.Omega.{arith}
use borrow.Author.Tests.{ltb-true, ltb-false, eqb-true, eqb-false}
use lib.Dec.{eqb, ltb}
use lib.ListN.{length, get_or, get_or-eq_default}
use Rattle.loops.specs.Cases.{bit}
use Rattle.loops.specs.Passes.{total, first_of, marks_of}
use Rattle.loops.proofs.Search.{first_none, first-same}
use Rattle.loops.proofs.Marks.{a_mark}
use Rattle.generators.specs.Generators.{generator}
use Rattle.candidates.specs.declared.Want.{Want}
use Rattle.candidates.specs.declared.Want.TheVariants.{Releasing, SustainedOn, HeldOn, BusyOn}
use Rattle.candidates.specs.Candidates.{wanted}

-- whether generator g is wanted, by the numbers in the record; the key is no matter
abbrev pub wanted_at : Want → List ℕ → List ℕ → ℕ → Bool
wanted_at w state channel g = wanted w (generator (get_or state g 0) (get_or channel g 0) 0)

wanted-key : (w : Want) (x y key : ℕ) → wanted w (generator x y key) ≡ wanted w (generator x y 0)
unfolding wanted
wanted-key Releasing x y key = refl
wanted-key (SustainedOn c) x y key = refl
wanted-key (HeldOn c) x y key = refl
wanted-key (BusyOn c) x y key = refl

-- a number that is no generator's is not wanted: its state reads as idle
idle_unwanted : (w : Want) (y key : ℕ) → wanted w (generator 0 y key) ≡ false
unfolding wanted
idle_unwanted Releasing y key = refl
idle_unwanted (SustainedOn c) y key = refl
idle_unwanted (HeldOn c) y key = refl
idle_unwanted (BusyOn c) y key = refl

pub wanted_none : (w : Want) (state channel : List ℕ) → length state ≡ 64
    → (g : ℕ) → 64 ≤ g → wanted_at w state channel g ≡ false
wanted_none w state channel e g h =
    rw (get_or-eq_default state 0 {n = g} (omega arith)) (idle_unwanted w (get_or channel g 0) 0)

-- ---- the search along the order of age, by marks

total_zero : (f : ℕ → ℕ) (n : ℕ) → total f n ≡ 0 → (i : ℕ) → i < n → f i ≡ 0
unfolding total
total_zero f zero e i h = absurd (omega arith)
total_zero f (suc n) e i h = go (eqb i n) refl (λ k. total_zero f n (omega arith) i k)
  where
    go : (b : Bool) → eqb i n ≡ b → (i < n → f i ≡ 0) → f i ≡ 0
    go true t ih = ap f (eqb-true i n t) ∙ last
      where
        last : f n ≡ 0
        last = omega arith
    go false t ih = let s = eqb-false i n t in ih (omega arith)

no_bit : (b : Bool) → bit b ≡ 0 → b ≡ false
no_bit true e = absurd (omega arith)
no_bit false e = refl

module _ (w : Want) (state channel keys : List ℕ) (e : length state ≡ 64) where
  abbrev is-wanted : ℕ → Bool
  is-wanted g = wanted w (generator (get_or state g 0) (get_or channel g 0) (get_or keys g 0))

  key-free : (g : ℕ) → is-wanted g ≡ wanted_at w state channel g
  key-free g = wanted-key w (get_or state g 0) (get_or channel g 0) (get_or keys g 0)

  -- none is counted: none is found
  pub found_none : total (λ g. bit (wanted_at w state channel g)) 64 ≡ 0 → (l : List ℕ) → first_of is-wanted l ≡ none
  found_none z l = first_none is-wanted (λ g. key-free g ∙ go g (ltb g 64) refl) l
    where
      go : (g : ℕ) (b : Bool) → ltb g 64 ≡ b → wanted_at w state channel g ≡ false
      go g true t = no_bit _ (total_zero (λ (g : ℕ). bit (wanted_at w state channel g)) 64 z g (ltb-true g 64 t))
      go g false t = wanted_none w state channel e g (ltb-false g 64 t)

  -- with the marks of those that are wanted, the first with a mark is the first that is wanted
  pub found_marked : (marks : List ℕ) → marks ≡ marks_of (wanted_at w state channel)
      → (l : List ℕ) → first_of (λ g. not (eqb (get_or marks g 0) 0)) l ≡ first_of is-wanted l
  found_marked marks m l =
      first-same _ is-wanted (λ g. rw m
      (a_mark (wanted_at w state channel) 64 (wanted_none w state channel e) (omega arith) g) ∙ sym (key-free g)) l

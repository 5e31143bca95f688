-- The search for an idle generator: among the numbers 0, 1, .. n - 1 the element at a place is the place.
-- Assumes nothing.
use mathlib.Core.Path.{◌≡◌}
use mathlib.Core.Bool.{Bool, true, false}
use mathlib.Core.List.{List}
use mathlib.Core.Option.{Option, some, none}
use Prim.Native.Nat.{ℕ, ◌+◌, ◌≤◌, ◌<◌}
use native.Mathlib.Omega.{arith}
use lib.ListN.{drop}
use Rattle.loops.specs.Passes.{up_to, first_of}
use Rattle.loops.proofs.Fill.{length-up_to, at-up_to}
use Rattle.loops.proofs.Search.{first_yes, first_no, first_end}

abbrev pub numbers : ℕ → List ℕ
numbers n = up_to (λ g. g) n

module _ (p : ℕ → Bool) (n : ℕ) where
  pub number_yes : (g : ℕ) (r : Option ℕ) → g < n → first_of p (drop g (numbers n)) ≡ r → p g ≡ true → some g ≡ r
  number_yes g r h e t =
      let l = length-up_to (λ (g : ℕ). g) n in
      let a = at-up_to (λ (g : ℕ). g) 0 n g h in
      rw a at (first_yes p 0 (numbers n) g r (omega arith) e (rw a t))

  pub number_no : (g : ℕ) (r : Option ℕ) → g < n → first_of p (drop g (numbers n)) ≡ r
      → p g ≡ false → first_of p (drop (g + 1) (numbers n)) ≡ r
  number_no g r h e t =
      let l = length-up_to (λ (g : ℕ). g) n in
      first_no p 0 (numbers n) g r (omega arith) e (rw (at-up_to (λ (g : ℕ). g) 0 n g h) t)

  pub number_end : (g : ℕ) (r : Option ℕ) → n ≤ g → first_of p (drop g (numbers n)) ≡ r → none ≡ r
  number_end g r h e = let l = length-up_to (λ (g : ℕ). g) n in first_end p (numbers n) g r (omega arith) e

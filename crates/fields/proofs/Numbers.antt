-- The digits of a number leave the number that they spell, or 99,999,999, and a comma behind them begins the next.
-- Assumes nothing.
use Prim.Native.Nat.{ℕ, ◌+◌, ◌-◌, ◌*◌, ◌<◌}
use mathlib.Core.Path.{◌≡◌, refl, ◌∙◌}
use mathlib.Core.Bool.{Bool, true, false, ◌&&◌}
use mathlib.Core.List.{List, [], ◌∷◌, ◌++◌}
use native.Mathlib.Omega.{arith}
use lib.Dec.{leb}
use borrow.Author.Tests.{lt-ltb, leb-true, ne_eqb}
use Rattle.loops.proofs.Tests.{and_left, and_right}
use Rattle.fields.specs.declared.Line.{Line}
use Rattle.fields.specs.Line.{kept, is_digit, with_digit, after_digit, after_comma, read}
use Rattle.fields.specs.Fields.{number_from, spelled}
use Rattle.fields.proofs.Parts.{from, from_byte}

pub both : (x y : Bool) → (x && y) ≡ true → (x ≡ true) × (y ≡ true)
both x y e = (and_left x y e, and_right x y e)

-- a line within a number
unfoldable pub at : ℕ → Bool → ℕ → ℕ → ℕ → Line
at r d k s n = record { commas = r; digit = d; first = k; previous = s; last = kept n }

-- a number that is kept as 99,999,999 stays that, whatever digit comes behind it
pub kept_digit : (n d : ℕ) → with_digit (kept n) d ≡ kept (10 * n + d)
kept_digit n d = omega arith

module _ (ended : Line → List ℕ) (r k s : ℕ) where
  pub from_digit : (d : Bool) (n x : ℕ) (ys : List ℕ) → is_digit x ≡ true
      → from ended (at r d k s n) (x ∷ ys) ≡ from ended (at r true k s (10 * n + (x - 48))) ys
  unfolding at read after_digit
  from_digit d n x ys e =
      let h = leb-true 48 x (both (leb 48 x) (leb x 57) e).0 in
      from_byte ended (at r d k s n) x ys (ne_eqb x 10 (λ q. omega arith)) ∙ rw (e, kept_digit n (x - 48))

  pub from_number : (d : Bool) (n : ℕ) (xs ys : List ℕ) → number_from d xs ≡ true
      → from ended (at r d k s n) (xs ++ ys) ≡ from ended (at r true k s (spelled n xs)) ys
  unfolding number_from spelled
  from_number d n [] ys e = rw e
  from_number d n (x ∷ xs) ys e =
      let h = both (is_digit x) (number_from true xs) e in
      from_digit d n x (xs ++ ys) h.0 ∙ from_number true (10 * n + (x - 48)) xs ys h.1

  pub from_comma : (n : ℕ) (ys : List ℕ) → r < 2
      → from ended (at r true k s n) (44 ∷ ys) ≡ from ended (at (r + 1) false s (kept n) 0) ys
  unfolding at read after_comma
  from_comma n ys h = from_byte ended (at r true k s n) 44 ys refl ∙ rw (lt-ltb r 2 h)

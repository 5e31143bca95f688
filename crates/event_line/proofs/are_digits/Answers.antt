-- `event_line::are_digits` meets its contract: where the length and the first digit are right, the code's test of all
-- digits is the definition's.
-- Assumes nothing.
use Rattle.std.proofs.Common.{rules, tests}
use Rattle.std.specs.Prelude.{Some, slice_get}
use Rattle.std.specs.List.{list_all}
use Rattle.std.proofs.lemmas.Iterator.{YieldsList-from_slice}
use Rattle.std.proofs.lemmas.Iterator.Search.{all_from_yields_List}
use mathlib.Core.Path.{◌≡◌, refl, ◌∙◌}
use mathlib.Core.Bool.{Bool, true, false, ◌&&◌}
use mathlib.Core.List.{List, [], ◌∷◌}
use Prim.Native.Nat.{ℕ, ◌≤◌}
use native.Mathlib.Omega.{arith}
use borrow.Author.Tests.{ne_eqb}
use lib.ListN.{length}
use Rattle.loops.proofs.Tests.{impossible}
use Rattle.event_line.specs.Parse.{is_digit, are_digits}
use Rattle.event_line.proofs.are_digits.Goals as goal

last : (b : Bool) → b && true ≡ b
last true = refl
last false = refl

all_right : (l : List ℕ) (v : ℕ) → Some v ≡ slice_get l 0 → (v ≡ 48 → ⊥) → length l ≤ 3
    → list_all is_digit l ≡ are_digits l
all_right [] v e n k = impossible (cc)
all_right (x ∷ []) v e n k = last (is_digit x)
all_right (x ∷ y ∷ []) v e n k =
    let s : v ≡ x = cc in
    rw (ne_eqb x 48 (λ q. n (s ∙ q)), last (is_digit y))
all_right (x ∷ y ∷ z ∷ []) v e n k =
    let s : v ≡ x = cc in
    rw (ne_eqb x 48 (λ q. n (s ∙ q)), last (is_digit z))
all_right (x ∷ y ∷ z ∷ w ∷ l) v e n k = absurd (omega arith)

pub returns-then-digits-le3 : goal.returns-then-digits-le3
returns-then-digits-le3 c =
    let xs = c.args.digits.now in
    all_from_yields_List is_digit _ _ c.all.result c.all.ensures.ran (YieldsList-from_slice xs cc)
    (λ x b q k. search (rules, tests)) ∙ all_right xs _ c.in-Some.ensures.value c.in-Some.field-0-test.1 c.if-digits-le3.true

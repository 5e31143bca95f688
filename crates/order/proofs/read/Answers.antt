-- `order::read` meets its contract: the length and the counts are the definition's two tests.
-- Assumes nothing.
use Rattle.std.specs.Prelude.{◌≢◌, Result, Ok, Err, Some, None, MatchResult, if◌then◌else◌}
use Rattle.std.specs.Array.{IsWholeChunk}
use Rattle.std.specs.Bool.{then_some}
use Rattle.std.specs.Result.{result_ok}
use mathlib.Core.Path.{◌≡◌, refl, ap, ◌∙◌}
use mathlib.Core.Bool.{Bool, true, false}
use mathlib.Core.List.{List}
use Prim.Native.Nat.{ℕ, ◌+◌}
use lib.Dec.{eqb}
use lib.ListN.{length}
use Rattle.loops.proofs.Tests.{impossible}
use borrow.Author.Tests.{eq-eqb, ne_eqb}
use Rattle.order.specs.Order.{each, times, is_order, order_of}
use Rattle.order.proofs.read.Goals as goal

module _ {E : Type 0} (xs : List ℕ) where
  no_array : (r : Result (List ℕ) E)
      → MatchResult r (λ y. IsWholeChunk {A = ℕ} xs y 16) (λ _. length xs ≢ 16) → None ≡ result_ok r → length xs ≢ 16
  no_array (Ok y) h k = impossible (cc)
  no_array (Err e) h k = h

  an_array : (r : Result (List ℕ) E) (z : List ℕ)
      → MatchResult r (λ y. IsWholeChunk {A = ℕ} xs y 16) (λ _. length xs ≢ 16) → Some z ≡ result_ok r
      → IsWholeChunk {A = ℕ} xs z 16
  an_array (Ok y) z h k = let e : z ≡ y = cc in rw e h
  an_array (Err e) z h k = impossible (cc)

some_order : (xs : List ℕ) (b : Bool) → length xs ≡ 16 → b ≡ each (λ i. eqb (times xs (i + 1)) 1) 16
    → then_some b xs ≡ order_of xs
unfolding order_of is_order
some_order xs b h e = rw (eq-eqb _ _ h, ← e) (go b)
  where
    go : (b : Bool) → then_some b xs ≡ (if b then Some xs else None)
    go true = refl
    go false = refl

pub returns-in_err-order : goal.returns-in_err-order
unfolding order_of is_order
returns-in_err-order c =
    let xs = c.args.order.now in
    let n = no_array xs c.try_from.result c.try_from.ensures.1 c.in_err-order.ensures.value in
    c.from_residual.ensures ∙ rw (ne_eqb (length xs) 16 n) refl

pub returns : goal.returns
returns c =
    let xs = c.args.order.now in
    let a = an_array xs c.try_from.result c.in_ok-order.order c.try_from.ensures.1 c.in_ok-order.ensures.value in
    c.then_some.ensures ∙ some_order c.in_ok-order.order c.all_once.result (ap length a.same ∙ a.long) c.all_once.ensures
    ∙ ap order_of a.same

-- R6.12 of 124 to 127, for every record: whatever their value, they act as 123 with value 0. There are four of them,
-- and with each number written out both sides compute to the same record.
-- Assumes nothing.
use mathlib.Core.Path.{◌≡◌, refl, sym, subst}
use mathlib.Core.Bool.{Bool, true, false}
use Prim.Native.Nat.{ℕ, ◌≤◌}
use native.Mathlib.Omega.{arith}
use borrow.Author.Tests.{eqb-true, eqb-false}
use lib.Dec.{eqb}
use Rattle.controllers.specs.Controllers.{controlled, stored}
use Rattle.instrument.specs.declared.Instrument.{Instrument}
use Rattle.other_messages.specs.OtherMessages.{notes_after, play_control}

-- what holds of 124, 125, 126 and 127 holds of every number from 124 to 127
pub by_mode : (Q : ℕ → Type 0) → Q 124 → Q 125 → Q 126 → Q 127 → (n : ℕ) → 124 ≤ n → n ≤ 127 → Q n
by_mode Q a b c d n lo hi = go (eqb n 124) refl (eqb n 125) refl (eqb n 126) refl
  where
    go : (p : Bool) → eqb n 124 ≡ p → (q : Bool) → eqb n 125 ≡ q → (r : Bool) → eqb n 126 ≡ r → Q n
    go true p q e r f = subst Q (sym (eqb-true n 124 p)) a
    go false p true e r f = subst Q (sym (eqb-true n 125 e)) b
    go false p false e true f = subst Q (sym (eqb-true n 126 f)) c
    go false p false e false f =
        let x = eqb-false n 124 p in
        let y = eqb-false n 125 e in
        let z = eqb-false n 126 f in
        subst Q (omega arith) d

pub plays_as_123 : (i : Instrument) (c n v : ℕ) → 124 ≤ n → n ≤ 127 → play_control i c n v ≡ play_control i c 123 0
unfolding play_control notes_after controlled stored
plays_as_123 i c n v = by_mode (λ (m : ℕ). play_control i c m v ≡ play_control i c 123 0) refl refl refl refl n

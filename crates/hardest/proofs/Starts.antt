-- Every start leaves a fresh device with P from 1 to 64. So what holds of each of these holds of every start, refused
-- ones too.
-- Assumes nothing.
use Rattle.std.specs.Prelude.{if◌then◌else◌}
use mathlib.Core.Path.{◌≡◌, refl}
use mathlib.Core.Bool.{Bool, true, false, ◌||◌}
use Prim.Native.Nat.{ℕ, ◌≤◌}
use native.Mathlib.Omega.{arith}
use borrow.Author.Tests.{ltb-false, le-ltb}
use lib.Dec.{ltb}
use Rattle.loops.proofs.Tests.{impossible}
use Rattle.refusals.specs.declared.Refusal.TheVariants as refusal
use Rattle.playing.specs.declared.Answer.TheVariants as answer
use Rattle.device.specs.declared.Device.{Device}
use Rattle.device.specs.Device.{is_wrong_p, fresh_device, fresh_output, started}

-- neither below 1 nor above 64
pub in_range : (p : ℕ) → is_wrong_p p ≡ false → (1 ≤ p) × (p ≤ 64)
in_range p e = go (ltb p 1) refl (ltb 64 p) refl e
  where
    go : (a : Bool) → ltb p 1 ≡ a → (b : Bool) → ltb 64 p ≡ b → a || b ≡ false → (1 ≤ p) × (p ≤ 64)
    go true x b y e = impossible (cc)
    go false x true y e = impossible (cc)
    go false x false y e = let l = ltb-false p 1 x in let h = ltb-false 64 p y in (omega arith, omega arith)

pub every_start : (Q : Device → Type 0)
    → ((p id : ℕ) → 1 ≤ p → p ≤ 64 → Q (fresh_device p id)) → (p id : ℕ) → Q (started p id).device
unfolding started
every_start Q f p id = go (is_wrong_p p) refl (ltb 126 id)
  where
    one : Q (fresh_device 1 0)
    one = f 1 0 (omega arith) (omega arith)

    go : (x : Bool) → is_wrong_p p ≡ x → (y : Bool)
        → Q (if x then fresh_output (answer.Number refusal.WrongPolyphony) 1 0
        else if y then fresh_output (answer.Number refusal.WrongId) 1 0 else fresh_output answer.Done p id).device
    go true e y = one
    go false e true = one
    go false e false = let r = in_range p e in f p id r.0 r.1

-- an accepted P and own ID are the device's
pub started-fresh : (p id : ℕ) → is_wrong_p p ≡ false → id ≤ 126 → (started p id).device ≡ fresh_device p id
unfolding started
started-fresh p id e h = rw (e, le-ltb 126 id h)

pub is_right : (p : ℕ) → 1 ≤ p → p ≤ 64 → is_wrong_p p ≡ false
is_right p lo hi = rw (le-ltb p 1 lo, le-ltb 64 p hi)

-- Two tests at once: what is known of each of them where both hold, and where neither does. And what cannot be: `cc`
-- takes two constructors that are said to be equal to 0 ≡ 1, and from that everything follows. And a number that is
-- not the least one that it may be.
-- Assumes nothing.
use mathlib.Core.Path.{◌≡◌, refl}
use mathlib.Core.Bool.{Bool, true, false, ◌&&◌, ◌||◌}
use Prim.Native.Nat.{ℕ, suc, ◌≤◌}
use native.Mathlib.Omega.{arith}

pub impossible : {A : Type 0} → ◌≡◌ {A = ℕ} 0 1 → A
impossible z = absurd (omega arith)

pub and_left : (a b : Bool) → a && b ≡ true → a ≡ true
and_left true b h = refl
and_left false b h = h

pub and_right : (a b : Bool) → a && b ≡ true → b ≡ true
and_right true b h = h
and_right false b h = impossible (cc)

pub or_left : (a b : Bool) → a || b ≡ false → a ≡ false
or_left true b h = h
or_left false b h = refl

pub or_right : (a b : Bool) → a || b ≡ false → b ≡ false
or_right true b h = impossible (cc)
or_right false b h = h

pub past : (n s : ℕ) → n ≤ s → (s ≡ n → ⊥) → suc n ≤ s
past n s l h = omega (arith, h)

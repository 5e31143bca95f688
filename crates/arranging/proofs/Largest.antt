-- The larger of two numbers.
-- Assumes nothing.
use Rattle.std.specs.Prelude.{if◌then◌else◌}
use mathlib.Core.Path.{◌≡◌, refl}
use mathlib.Core.Bool.{Bool, true, false}
use Prim.Native.Nat.{ℕ, ◌≤◌}
use native.Mathlib.Omega.{arith}
use borrow.Author.Tests.{ltb-true, ltb-false, le-ltb}
use lib.Dec.{ltb}
use Rattle.joint.specs.Joint.{larger}

pub larger_left : (a b : ℕ) → a ≤ larger a b
larger_left a b = go (ltb a b) refl
  where
    go : (t : Bool) → ltb a b ≡ t → a ≤ (if t then b else a)
    go true e = let h = ltb-true a b e in omega arith
    go false e = omega arith

pub larger-right : (a b : ℕ) → b ≤ larger a b
larger-right a b = go (ltb a b) refl
  where
    go : (t : Bool) → ltb a b ≡ t → b ≤ (if t then b else a)
    go true e = omega arith
    go false e = let h = ltb-false a b e in omega arith

pub larger_le : (a b m : ℕ) → a ≤ m → b ≤ m → larger a b ≤ m
larger_le a b m p q = go (ltb a b)
  where
    go : (t : Bool) → (if t then b else a) ≤ m
    go true = q
    go false = p

pub larger_none : (a : ℕ) → larger a 0 ≡ a
larger_none a = go (ltb a 0) refl
  where
    go : (t : Bool) → ltb a 0 ≡ t → (if t then 0 else a) ≡ a
    go true e = let h = ltb-true a 0 e in absurd (omega arith)
    go false e = refl

pub none_larger : (a : ℕ) → larger 0 a ≡ a
none_larger a = go (ltb 0 a) refl
  where
    go : (t : Bool) → ltb 0 a ≡ t → (if t then a else 0) ≡ a
    go true e = refl
    go false e = let h = ltb-false 0 a e in omega arith

pub larger_assoc : (a b c : ℕ) → larger (larger a b) c ≡ larger a (larger b c)
larger_assoc a b c = go (ltb a b) refl (ltb b c) refl (ltb a c) refl
  where
    go : (p : Bool) → ltb a b ≡ p → (q : Bool) → ltb b c ≡ q → (r : Bool)
        → ltb a c ≡ r → larger (if p then b else a) c ≡ larger a (if q then c else b)
    go true e true f true g = rw (f, g)
    go true e true f false g =
        let x = ltb-true a b e in
        let y = ltb-true b c f in
        let z = ltb-false a c g in
        absurd (omega arith)
    go true e false f r g = rw (f, e)
    go false e true f r g = refl
    go false e false f true g =
        let x = ltb-false a b e in
        let y = ltb-false b c f in
        let z = ltb-true a c g in
        absurd (omega arith)
    go false e false f false g = rw (e, g)

pub larger-same : (a b : ℕ) → b ≤ a → larger a b ≡ a
larger-same a b h = rw (le-ltb a b h)

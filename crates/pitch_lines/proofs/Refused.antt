-- A number of a call that is above all that are accepted may be cut to one that is refused too: the answer stays.
-- Assumes nothing.
use Rattle.std.specs.Prelude.{if◌then◌else◌, Ok, Err}
use Prim.Native.Nat.{ℕ, ◌<◌}
use mathlib.Core.Path.{◌≡◌, refl, sym, ◌∙◌}
use mathlib.Core.Bool.{Bool, true, false, ◌||◌}
use native.Mathlib.Omega.{arith}
use lib.Dec.{leb, ltb}
use borrow.Author.Tests.{lt-ltb, leb-true, leb-false}
use Rattle.loops.specs.Cases.{at_most}
use Rattle.refusals.specs.declared.Refusal.TheVariants as refusal
use Rattle.pitch.specs.Pitch.{position, pitch_at, pitch_of}

key-refused : (k s b : ℕ) → 127 < k → pitch_of k s b ≡ Err refusal.PitchOutOfRange
unfolding pitch_of
key-refused k s b h = rw (lt-ltb 127 k h)

sensitivity-refused : (k s b : ℕ) → 24 < s → pitch_of k s b ≡ Err refusal.PitchOutOfRange
unfolding pitch_of
sensitivity-refused k s b h = rw (lt-ltb 24 s h) (go (ltb 127 k))
  where
    go : (x : Bool) → (if x || true then Err refusal.PitchOutOfRange else Ok (pitch_at (position k s b))) ≡ Err refusal.PitchOutOfRange
    go true = refl
    go false = refl

bend_refused : (k s b : ℕ) → 16383 < b → pitch_of k s b ≡ Err refusal.PitchOutOfRange
unfolding pitch_of
bend_refused k s b h = rw (lt-ltb 16383 b h) (go (ltb 127 k) (ltb 24 s))
  where
    go : (x y : Bool) → (if x || (y || true) then Err refusal.PitchOutOfRange else Ok (pitch_at (position k s b))) ≡ Err refusal.PitchOutOfRange
    go true y = refl
    go false true = refl
    go false false = refl

module _ (m k s b : ℕ) where
  pub key_cut : 127 < m → pitch_of (at_most m k) s b ≡ pitch_of k s b
  key_cut h = go (leb k m) refl
    where
      go : (x : Bool) → leb k m ≡ x → pitch_of (at_most m k) s b ≡ pitch_of k s b
      go true e = let l = leb-true k m e in let c : at_most m k ≡ k = omega arith in rw c
      go false e =
          let l = leb-false k m e in
          key-refused (at_most m k) s b (omega arith) ∙ sym (key-refused k s b (omega arith))

  pub sensitivity_cut : 24 < m → pitch_of k (at_most m s) b ≡ pitch_of k s b
  sensitivity_cut h = go (leb s m) refl
    where
      go : (x : Bool) → leb s m ≡ x → pitch_of k (at_most m s) b ≡ pitch_of k s b
      go true e = let l = leb-true s m e in let c : at_most m s ≡ s = omega arith in rw c
      go false e =
          let l = leb-false s m e in
          sensitivity-refused k (at_most m s) b (omega arith) ∙ sym (sensitivity-refused k s b (omega arith))

  pub bend_cut : 16383 < m → pitch_of k s (at_most m b) ≡ pitch_of k s b
  bend_cut h = go (leb b m) refl
    where
      go : (x : Bool) → leb b m ≡ x → pitch_of k s (at_most m b) ≡ pitch_of k s b
      go true e = let l = leb-true b m e in let c : at_most m b ≡ b = omega arith in rw c
      go false e =
          let l = leb-false b m e in
          bend_refused k s (at_most m b) (omega arith) ∙ sym (bend_refused k s b (omega arith))

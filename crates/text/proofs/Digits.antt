-- The fewest digits that hold a number are its decimal text: one digit less each time the number is divided by ten.
-- Assumes nothing.
use Rattle.std.specs.Prelude.{if◌then◌else◌}
use Prim.Native.Nat.{ℕ, zero, suc, ◌+◌, ◌-◌, ◌*◌, ◌/◌, ◌%◌, ◌^◌, ◌≤◌, ◌<◌}
use mathlib.Core.Path.{◌≡◌, refl}
use mathlib.Core.Bool.{Bool, true, false}
use native.Mathlib.Omega.{arith}
use native.Mathlib.Nat.{one-le-pow, pow-suc, pow-le-pow_right}
use borrow.Author.Tests.{lt-ltb, le-ltb, leb-true, leb-false}
use mathlib.Core.List.{[], ◌∷◌, ◌++◌}
use lib.Dec.{leb, ltb}
use lib.ListN.{length, length-append}
use Rattle.io.specs.Digits.{last_digits, hex_digit_ascii, IsDigitCount}
use Rattle.text.specs.Text.{decimal_within}

glyph_digit : (d : ℕ) → d < 10 → hex_digit_ascii d ≡ 48 + d
glyph_digit d h = rw (lt-ltb d 10 h)

pub decimal_digits : (k r n : ℕ) → r ≤ k → IsDigitCount 10 1 n r → last_digits 10 r n ≡ decimal_within k n
unfolding decimal_within
decimal_digits zero r n h f = let a = f.0 in absurd (omega arith)
decimal_digits (suc k) zero n h f = let a = f.0 in absurd (omega arith)
decimal_digits (suc k) (suc zero) n h f =
    let small : n < 10 = f.1 in
    let e : n % 10 ≡ n = omega arith in
    rw (e, glyph_digit n small, lt-ltb n 10 small)
decimal_digits (suc k) (suc (suc r)) n h f =
    let high : n < 10 ^ suc (suc r) = f.1 in
    let x : suc (suc r) - 1 ≡ suc r = omega arith in
    let y : suc r - 1 ≡ r = omega arith in
    let low : 10 ^ suc r ≤ n = rw x at (f.2 (omega arith)) in
    let one : 1 ≤ 10 ^ r = one-le-pow r 10 (omega arith) in
    let s : 10 ^ suc r ≡ 10 ^ r * 10 = pow-suc 10 r in
    let t : 10 ^ suc (suc r) ≡ 10 ^ suc r * 10 = pow-suc 10 (suc r) in
    let ih = decimal_digits k (suc r) (n / 10) (omega arith) (omega arith, omega arith, λ q. rw y (omega arith)) in
    rw (le-ltb n 10 (omega arith), glyph_digit (n % 10) (omega arith), ih)

-- a number of 64 bits has at most twenty digits
pub twenty : (n r : ℕ) → n < 2 ^ 64 → IsDigitCount 10 1 n r → r ≤ 20
twenty n r h f = go (leb r 20) refl
  where
    go : (b : Bool) → leb r 20 ≡ b → r ≤ 20
    go true e = leb-true r 20 e
    go false e =
        let k = leb-false r 20 e in
        let a : 10 ^ 20 ≤ 10 ^ (r - 1) = pow-le-pow_right {n = 10} (omega arith) {i = 20} {j = r - 1} (omega arith) in
        let b : 10 ^ (r - 1) ≤ n = f.2 (omega arith) in
        absurd (omega arith)

-- as text it has no more bytes than that
pub digits_within : (k n : ℕ) → length (decimal_within k n) ≤ k
unfolding decimal_within
digits_within zero n = omega arith
digits_within (suc k) n = go (ltb n 10) (digits_within k (n / 10))
  where
    go : (b : Bool) → length (decimal_within k (n / 10)) ≤ k
        → length (if b then (48 + n) ∷ [] else decimal_within k (n / 10) ++ ((48 + n % 10) ∷ [])) ≤ suc k
    go true h = omega arith
    go false h = rw (length-append (decimal_within k (n / 10)) ((48 + n % 10) ∷ [])) (omega arith)

-- The decimal text of a number is digits that spell it: the last digit is the remainder by ten, and those before it
-- spell the quotient.
-- Assumes nothing.
use Rattle.std.specs.Prelude.{if◌then◌else◌}
use Prim.Native.Nat.{ℕ, zero, suc, ◌+◌, ◌-◌, ◌*◌, ◌/◌, ◌%◌, ◌^◌, ◌≤◌, ◌<◌}
use mathlib.Core.Path.{◌≡◌, refl, ◌∙◌}
use mathlib.Core.Bool.{Bool, true, false}
use mathlib.Core.List.{List, [], ◌∷◌, ◌++◌}
use native.Mathlib.Nat.{pow-suc}
use native.Mathlib.Omega.{arith}
use lib.Dec.{eqb, ltb}
use lib.ListN.{length, length-append}
use borrow.Author.Tests.{lt-ltb, ltb-true, ltb-false, le-leb, ne_eqb}
use Rattle.loops.specs.Passes.{count}
use Rattle.loops.proofs.Search.{count-append}
use Rattle.text.specs.Text.{decimal_within}
use Rattle.fields.specs.Line.{is_digit}
use Rattle.fields.specs.Fields.{line_ends, number_from, is_number, spelled}
use Rattle.fields.proofs.Numbers.{both}

spelled_more : (n : ℕ) (xs : List ℕ) (x : ℕ) → spelled n (xs ++ x ∷ []) ≡ 10 * spelled n xs + (x - 48)
unfolding spelled
spelled_more n [] x = refl
spelled_more n (y ∷ xs) x = spelled_more (10 * n + (y - 48)) xs x

number_more : (d : Bool) (xs : List ℕ) (x : ℕ) → number_from d xs ≡ true
    → is_digit x ≡ true → number_from d (xs ++ x ∷ []) ≡ true
unfolding number_from
number_more d [] x e f = rw f
number_more d (y ∷ xs) x e f =
    let h = both (is_digit y) (number_from true xs) e in
    rw h.0 (number_more true xs x h.1 f)

digit : (d : ℕ) → d < 10 → is_digit (48 + d) ≡ true
digit d h = rw (le-leb 48 (48 + d) (omega arith), le-leb (48 + d) 57 (omega arith))

-- digits that are a number's
pub record Written (xs : List ℕ) (n : ℕ) : Type 0 where
  pub number : is_number xs ≡ true
  pub is : spelled 0 xs ≡ n

one_digit : (n : ℕ) → n < 10 → Written ((48 + n) ∷ []) n
unfolding number_from spelled
one_digit n h = record { number = rw (digit n h); is = omega arith }

more_digits : (xs : List ℕ) (n : ℕ) → Written xs (n / 10) → Written (xs ++ (48 + n % 10) ∷ []) n
more_digits xs n w =
    let h : n % 10 < 10 = omega arith in
    record {
      number = number_more false xs (48 + n % 10) w.number (digit (n % 10) h);
      is = spelled_more 0 xs (48 + n % 10) ∙ rw w.is (omega arith);
    }

pub written : (j n : ℕ) → n < 10 ^ suc j → Written (decimal_within (suc j) n) n
unfolding decimal_within
written zero n h = rw (lt-ltb n 10 h) (one_digit n h)
written (suc j) n h = go (ltb n 10) refl (λ l. written j (n / 10) l)
  where
    go : (b : Bool) → ltb n 10 ≡ b → (n / 10 < 10 ^ suc j → Written (decimal_within (suc j) (n / 10)) (n / 10))
        → Written (if b then (48 + n) ∷ [] else decimal_within (suc j) (n / 10) ++ (48 + n % 10) ∷ []) n
    go true e ih = one_digit n (ltb-true n 10 e)
    go false e ih =
        let p : 10 ^ suc (suc j) ≡ 10 ^ suc j * 10 = pow-suc 10 (suc j) in
        more_digits (decimal_within (suc j) (n / 10)) n (ih (omega arith))

-- a number below 10 to the power j has at most j digits
pub decimal-length : (j k n : ℕ) → n < 10 ^ suc j → length (decimal_within k n) ≤ suc j
unfolding decimal_within
decimal-length j zero n h = omega arith
decimal-length j (suc k) n h = go j (ltb n 10) refl h (λ i l. decimal-length i k (n / 10) l)
  where
    go : (j : ℕ) (b : Bool) → ltb n 10 ≡ b → n < 10 ^ suc j
        → ((i : ℕ) → n / 10 < 10 ^ suc i → length (decimal_within k (n / 10)) ≤ suc i)
        → length (if b then (48 + n) ∷ [] else decimal_within k (n / 10) ++ ((48 + n % 10) ∷ [])) ≤ suc j
    go j true e h ih = omega arith
    go zero false e h ih = let l = ltb-false n 10 e in absurd (omega arith)
    go (suc i) false e h ih =
        let p : 10 ^ suc (suc i) ≡ 10 ^ suc i * 10 = pow-suc 10 (suc i) in
        let m = ih i (omega arith) in
        rw (length-append (decimal_within k (n / 10)) ((48 + n % 10) ∷ [])) (omega arith)

-- and no 0AH among them
pub ends_parts : (xs ys : List ℕ) → line_ends (xs ++ ys) ≡ line_ends xs + line_ends ys
ends_parts xs ys = count-append (λ (x : ℕ). eqb x 10) xs ys

pub ends_decimal : (k n : ℕ) → line_ends (decimal_within k n) ≡ 0
unfolding count decimal_within
ends_decimal zero n = refl
ends_decimal (suc k) n = go (ltb n 10) (ends_decimal k (n / 10))
  where
    no_end : (d : ℕ) → line_ends ((48 + d) ∷ []) ≡ 0
    no_end d = rw (ne_eqb (48 + d) 10 (λ e. omega arith))

    go : (b : Bool) → line_ends (decimal_within k (n / 10)) ≡ 0
        → line_ends (if b then (48 + n) ∷ [] else decimal_within k (n / 10) ++ (48 + n % 10) ∷ []) ≡ 0
    go true h = no_end n
    go false h = rw (ends_parts (decimal_within k (n / 10)) ((48 + n % 10) ∷ []), h, no_end (n % 10))

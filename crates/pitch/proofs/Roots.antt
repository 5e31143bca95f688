-- The table of one octave follows its rule, and rises: one test of each of the 192 numbers, which the checker computes
-- in one sweep. Whatever is asked of an entry is then read off the test at its place; no power is computed again.
-- Assumes nothing.
use Rattle.std.specs.Prelude.{if◌then◌else◌}
use mathlib.Core.Path.{◌≡◌, refl, sym, subst}
use mathlib.Core.Bool.{Bool, true, false}
use mathlib.Core.List.{List, [], ◌∷◌}
use Prim.Native.Nat.{ℕ, zero, suc, ◌+◌, ◌*◌, ◌^◌, ◌≤◌, ◌<◌}
use native.Mathlib.Nat.{le_trans, le_of_eq, lt_irrefl, lt_of_lt_of_le, pow-le-pow_left}
use native.Mathlib.Nat.{one-le-pow, pow-suc, mul-le-mul_right, one-mul}
use native.Mathlib.Omega.{arith}
use lib.Dec.{T, eqb, leb, ltb, leb→le, ltb→lt}
use lib.ListN.{get_or}
use borrow.Author.Tests.{ltb-true, ltb-false, lt-ltb, le-leb, lt-leb, eqb-true, eqb-false}
use Rattle.loops.proofs.Sweep.{at, both, both_left, both_right}
use Rattle.pitch.specs.Pitch.{largest, entry}

abbrev pub roots : List ℕ
roots =
    65536 ∷ 65773 ∷ 66010 ∷ 66249 ∷ 66489 ∷ 66729 ∷ 66971 ∷ 67213
    ∷ 67456 ∷ 67700 ∷ 67945 ∷ 68190 ∷ 68437 ∷ 68685 ∷ 68933 ∷ 69182
    ∷ 69432 ∷ 69684 ∷ 69936 ∷ 70189 ∷ 70442 ∷ 70697 ∷ 70953 ∷ 71209
    ∷ 71467 ∷ 71725 ∷ 71985 ∷ 72245 ∷ 72507 ∷ 72769 ∷ 73032 ∷ 73296
    ∷ 73561 ∷ 73827 ∷ 74094 ∷ 74362 ∷ 74631 ∷ 74901 ∷ 75172 ∷ 75444
    ∷ 75717 ∷ 75991 ∷ 76265 ∷ 76541 ∷ 76818 ∷ 77096 ∷ 77375 ∷ 77655
    ∷ 77935 ∷ 78217 ∷ 78500 ∷ 78784 ∷ 79069 ∷ 79355 ∷ 79642 ∷ 79930
    ∷ 80219 ∷ 80509 ∷ 80800 ∷ 81093 ∷ 81386 ∷ 81680 ∷ 81976 ∷ 82272
    ∷ 82570 ∷ 82868 ∷ 83168 ∷ 83469 ∷ 83771 ∷ 84074 ∷ 84378 ∷ 84683
    ∷ 84989 ∷ 85297 ∷ 85605 ∷ 85915 ∷ 86225 ∷ 86537 ∷ 86850 ∷ 87164
    ∷ 87480 ∷ 87796 ∷ 88113 ∷ 88432 ∷ 88752 ∷ 89073 ∷ 89395 ∷ 89718
    ∷ 90043 ∷ 90369 ∷ 90695 ∷ 91023 ∷ 91353 ∷ 91683 ∷ 92015 ∷ 92347
    ∷ 92681 ∷ 93017 ∷ 93353 ∷ 93691 ∷ 94029 ∷ 94370 ∷ 94711 ∷ 95053
    ∷ 95397 ∷ 95742 ∷ 96088 ∷ 96436 ∷ 96785 ∷ 97135 ∷ 97486 ∷ 97839
    ∷ 98193 ∷ 98548 ∷ 98904 ∷ 99262 ∷ 99621 ∷ 99981 ∷ 100343 ∷ 100706
    ∷ 101070 ∷ 101435 ∷ 101802 ∷ 102170 ∷ 102540 ∷ 102911 ∷ 103283 ∷ 103657
    ∷ 104031 ∷ 104408 ∷ 104785 ∷ 105164 ∷ 105545 ∷ 105926 ∷ 106309 ∷ 106694
    ∷ 107080 ∷ 107467 ∷ 107856 ∷ 108246 ∷ 108637 ∷ 109030 ∷ 109425 ∷ 109820
    ∷ 110217 ∷ 110616 ∷ 111016 ∷ 111418 ∷ 111821 ∷ 112225 ∷ 112631 ∷ 113038
    ∷ 113447 ∷ 113857 ∷ 114269 ∷ 114682 ∷ 115097 ∷ 115514 ∷ 115931 ∷ 116351
    ∷ 116771 ∷ 117194 ∷ 117618 ∷ 118043 ∷ 118470 ∷ 118898 ∷ 119328 ∷ 119760
    ∷ 120193 ∷ 120628 ∷ 121064 ∷ 121502 ∷ 121941 ∷ 122382 ∷ 122825 ∷ 123269
    ∷ 123715 ∷ 124162 ∷ 124611 ∷ 125062 ∷ 125514 ∷ 125968 ∷ 126424 ∷ 126881
    ∷ 127340 ∷ 127801 ∷ 128263 ∷ 128727 ∷ 129192 ∷ 129660 ∷ 130129 ∷ 130599
    ∷ []

-- n ^ 192 does not exceed 2 ^ (3072 + i), and (n + 1) ^ 192 does
pub record Root (i n : ℕ) : Type 0 where
  pub low : n ^ 192 ≤ 2 ^ (3072 + i)
  pub high : 2 ^ (3072 + i) < (n + 1) ^ 192

low? : ℕ → ℕ → Bool
low? i n = leb (n ^ 192) (2 ^ (3072 + i))

high? : ℕ → ℕ → Bool
high? i n = ltb (2 ^ (3072 + i)) ((n + 1) ^ 192)

-- within the octave, and below the next entry
within? : ℕ → Bool
within? n = both (leb 65536 n) (ltb n 131072)

rises? : ℕ → ℕ → Bool
rises? i n = both (within? n) (ltb n (if ltb i 191 then get_or roots (suc i) 0 else 131072))

right : ℕ → ℕ → Bool
right i n = both (both (low? i n) (high? i n)) (rises? i n)

swept : (i : ℕ) → i < 192 → T (right i (get_or roots i 0))
unfolding right low? high? rises? within?
swept i h = at right roots tt i h

pub root_at : (i : ℕ) → i < 192 → Root i (get_or roots i 0)
unfolding right low? high?
root_at i h =
    let n = get_or roots i 0 in
    let t = both_left (both (low? i n) (high? i n)) (rises? i n) (swept i h) in
    record {
      low = leb→le _ _ (both_left (low? i n) (high? i n) t);
      high = ltb→lt _ _ (both_right (low? i n) (high? i n) t);
    }

risen : (i : ℕ) → i < 192 → T (rises? i (get_or roots i 0))
unfolding right
risen i h =
    let n = get_or roots i 0 in
    both_right (both (low? i n) (high? i n)) (rises? i n) (swept i h)

pub rises : (i : ℕ) → i < 191 → get_or roots i 0 < get_or roots (suc i) 0
unfolding rises?
rises i h =
    let n = get_or roots i 0 in
    let t = ltb→lt n (if ltb i 191 then get_or roots (suc i) 0 else 131072)
    (both_right (within? n) _ (risen i (omega arith))) in
    rw (lt-ltb i 191 h) at t

pub from_first : (i : ℕ) → i < 192 → 65536 ≤ get_or roots i 0
unfolding rises? within?
from_first i h =
    let n = get_or roots i 0 in
    leb→le _ _ (both_left (leb 65536 n) (ltb n 131072) (both_left (within? n) _ (risen i h)))

pub to_twice : (i : ℕ) → i < 192 → get_or roots i 0 < 131072
unfolding rises? within?
to_twice i h =
    let n = get_or roots i 0 in
    ltb→lt _ _ (both_right (leb 65536 n) (ltb n 131072) (both_left (within? n) _ (risen i h)))

-- a number that passes, above which none does, is the largest
largest_is : (p : ℕ → Bool) (m n : ℕ) → n ≤ m → p n ≡ true → ((j : ℕ) → n < j → p j ≡ false) → largest p m ≡ n
unfolding largest
largest_is p zero n h t f = omega arith
largest_is p (suc m) n h t f = go (eqb n (suc m)) refl (λ l. largest_is p m n l t f)
  where
    go : (b : Bool) → eqb n (suc m) ≡ b → (n ≤ m → largest p m ≡ n) → (if p (suc m) then suc m else largest p m) ≡ n
    go true e ih =
        let q = eqb-true n (suc m) e in
        let s : p (suc m) ≡ true = subst (λ (x : ℕ). p x ≡ true) q t in
        rw s (sym q)
    go false e ih =
        let q = eqb-false n (suc m) e in
        let l : n < suc m = omega (arith, q) in
        rw (f (suc m) l) (ih (omega arith))

-- a number is at most its powers
le_power : (n k : ℕ) → n ≤ n ^ suc k
le_power zero k = omega arith
le_power (suc n) k =
    let h : 1 * suc n ≤ suc n ^ k * suc n = mul-le-mul_right (suc n) (one-le-pow k (suc n) (omega arith)) in
    le_trans (le_of_eq (sym (one-mul (suc n)))) (le_trans h (le_of_eq (sym (pow-suc (suc n) k))))

pub entry_root : (i n : ℕ) → Root i n → entry i ≡ n
unfolding entry
entry_root i n r =
    largest_is (λ (m : ℕ). leb (m ^ 192) (2 ^ (3072 + i))) (2 ^ (3072 + i)) n
    (le_trans (le_power n 191) r.low) (le-leb _ _ r.low)
    (λ j h. lt-leb _ _ (lt_of_lt_of_le r.high (pow-le-pow_left (above j h) 192)))
  where
    above : (j : ℕ) → n < j → n + 1 ≤ j
    above j h = omega arith

-- the table holds the entries
pub entry_at : (i : ℕ) → i < 192 → entry i ≡ get_or roots i 0
entry_at i h = entry_root i (get_or roots i 0) (root_at i h)

-- R11.2 of the whole table: an entry's power does not exceed its bound, and no larger number's does not
pub largest-entry : (i : ℕ) → i < 192
    → (entry i ^ 192 ≤ 2 ^ (3072 + i)) × ((n : ℕ) → n ^ 192 ≤ 2 ^ (3072 + i) → n ≤ entry i)
largest-entry i h = rw (entry_at i h) ((root_at i h).low, λ n l. go n (ltb (get_or roots i 0) n) refl l)
  where
    go : (n : ℕ) (t : Bool) → ltb (get_or roots i 0) n ≡ t → n ^ 192 ≤ 2 ^ (3072 + i) → n ≤ get_or roots i 0
    go n false e l = ltb-false (get_or roots i 0) n e
    go n true e l =
        let k : get_or roots i 0 + 1 ≤ n = omega (arith, ltb-true (get_or roots i 0) n e) in
        absurd (lt_irrefl _ (lt_of_lt_of_le (root_at i h).high (le_trans (pow-le-pow_left k 192) l)))

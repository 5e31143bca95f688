-- Numbers 5 and 6 by the parser's count n: what follows the head of four is n less 4 bytes long, and longer than 32
-- where n is above 36, of which 37 are held.
-- Assumes nothing.
use mathlib.Core.Path.{◌≡◌, refl, ◌∙◌}
use mathlib.Core.Bool.{Bool, true, false, ◌||◌}
use mathlib.Core.List.{List}
use Prim.Native.Nat.{ℕ, ◌-◌, ◌%◌, ◌≤◌, ◌<◌, min}
use native.Mathlib.Omega.{arith}
use borrow.Author.Tests.{leb-true, leb-false, lt-ltb, le-ltb, eq-eqb, ne_eqb}
use lib.Dec.{leb, ltb, eqb}
use lib.ListN.{length, take, drop, length-take, length-drop}
use Rattle.std.specs.Prelude.{Err}
use Rattle.refusals.specs.declared.Refusal.TheVariants as refusal
use Rattle.mip.specs.Mip.{pairs, judged_pairs, judged}

module _ (n : ℕ) (l : List ℕ) (size : length l ≡ 37) where
  pub too_long : 36 < n → Err refusal.MipTooLong ≡ judged (drop 4 (take n l))
  unfolding judged
  too_long h =
      let k : 32 < length (drop 4 (take n l)) = rw (length-drop, length-take) (omega arith) in
      rw (lt-ltb 32 (length (drop 4 (take n l))) k)

  -- none, or an odd number
  uneven : n ≤ 36
      → eqb (length (drop 4 (take n l))) 0 || eqb (length (drop 4 (take n l)) % 2) 1 ≡ leb n 4 || eqb (n % 2) 1
  uneven h = rw (length-drop, length-take) (go (leb n 4) refl)
    where
      go : (b : Bool) → leb n 4 ≡ b
          → eqb (min n (length l) - 4) 0 || eqb ((min n (length l) - 4) % 2) 1 ≡ b || eqb (n % 2) 1
      go true t = let k = leb-true n 4 t in rw (eq-eqb (min n (length l) - 4) 0 (omega arith))
      go false t =
          let k = leb-false n 4 t in
          let p : (min n (length l) - 4) % 2 ≡ n % 2 = omega arith in
          rw (ne_eqb (min n (length l) - 4) 0 (λ q. omega arith), p)

  module _ (h : n ≤ 36) where
    short : ltb 32 (length (drop 4 (take n l))) ≡ false
    short =
        let k : length (drop 4 (take n l)) ≤ 32 = rw (length-drop, length-take) (omega arith) in
        le-ltb 32 (length (drop 4 (take n l))) k

    pub none_or_odd : leb n 4 || eqb (n % 2) 1 ≡ true → Err refusal.MipOddLength ≡ judged (drop 4 (take n l))
    unfolding judged
    none_or_odd t = rw (short, uneven h ∙ t)

    pub all_pairs : leb n 4 || eqb (n % 2) 1 ≡ false
        → judged_pairs (pairs (drop 4 (take n l))) ≡ judged (drop 4 (take n l))
    unfolding judged
    all_pairs t = rw (short, uneven h ∙ t)

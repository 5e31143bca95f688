-- What the loops over an order cite: a channel looked for among the first n, and one channel more in a joint count: it
-- adds nothing where it stood before, and else its busy generators.
-- Assumes nothing.
use Rattle.std.specs.Prelude.{if◌then◌else◌}
use Rattle.std.specs.List.{list_any}
use mathlib.Core.Path.{◌≡◌, refl, sym, ap, ◌∙◌}
use mathlib.Core.Bool.{Bool, true, false, ◌&&◌, ◌||◌}
use mathlib.Core.List.{List, [], ◌∷◌, ◌++◌}
use Prim.Native.Nat.{ℕ, ◌+◌, ◌≤◌, ◌<◌, max}
use native.Mathlib.Numerals.{add-one}
use native.Mathlib.Omega.{arith}
use borrow.Author.Tests.{eqb-true, eqb-false, ltb-true, ltb-false}
use lib.Dec.{eqb, ltb}
use lib.ListN.{length, take, get_or}
use lib.Seq.{take-suc}
use Rattle.loops.specs.Cases.{bit}
use Rattle.loops.specs.Passes.{total}
use Rattle.loops.proofs.Totals.{total_zero, total-same, total_add, total_bits}
use Rattle.generators.specs.declared.Generators.{Generators}
use Rattle.generators.specs.Generators.{at, is_busy, is_busy_on}
use Rattle.candidates.specs.Candidates.{busy_count}
use Rattle.joint.specs.Joint.{among, busy_on, larger}

-- ---- one channel more

among_snoc : (x c : ℕ) (l : List ℕ) → among x (l ++ (c ∷ [])) ≡ among x l || eqb x c
among_snoc x c [] = go (eqb x c)
  where
    go : (b : Bool) → b || false ≡ b
    go true = refl
    go false = refl
among_snoc x c (y ∷ l) = go (eqb x y) (among_snoc x c l)
  where
    go : (b : Bool) → among x (l ++ (c ∷ [])) ≡ among x l || eqb x c
        → b || among x (l ++ (c ∷ [])) ≡ (b || among x l) || eqb x c
    go true ih = refl
    go false ih = ih

-- a generator that one channel more counts: it was counted, or is the channel's, and not both
bit_snoc : (b : Bool) (x c : ℕ) (l : List ℕ)
    → bit (b && among x (l ++ (c ∷ []))) ≡ bit (b && among x l) + (if among c l then 0 else bit (b && eqb x c))
bit_snoc false x c l = go (among c l)
  where
    go : (t : Bool) → 0 ≡ 0 + (if t then 0 else 0)
    go true = refl
    go false = refl
bit_snoc true x c l = rw (among_snoc x c l) (go (eqb x c) refl)
  where
    go : (t : Bool) → eqb x c ≡ t → bit (among x l || t) ≡ bit (among x l) + (if among c l then 0 else bit t)
    go true e = rw (eqb-true x c e) (both (among c l))
      where
        both : (a : Bool) → bit (a || true) ≡ bit a + (if a then 0 else 1)
        both true = refl
        both false = refl
    go false e = either (among x l) (among c l)
      where
        either : (a d : Bool) → bit (a || false) ≡ bit a + (if d then 0 else 0)
        either true true = refl
        either true false = refl
        either false true = refl
        either false false = refl

module _ (order : List ℕ) (s : Generators) (k : ℕ) (h : k < length order) where
  abbrev part : List ℕ
  part = take k order

  abbrev next : ℕ
  next = get_or order k 0

  one_more : take (k + 1) order ≡ part ++ (next ∷ [])
  one_more = rw add-one (take-suc order k 0 h)

  grown : busy_on (take (k + 1) order) s
      ≡ busy_on part s + total (λ g. if among next part then 0 else bit (is_busy_on next (at s g))) 64
  unfolding busy_on
  grown =
      ap (λ (l : List ℕ). busy_on l s) one_more
      ∙ total-same (λ (g : ℕ). bit (is_busy (at s g) && among (at s g).channel (part ++ (next ∷ []))))
      (λ (g : ℕ). bit (is_busy (at s g) && among (at s g).channel part)
      + (if among next part then 0 else bit (is_busy_on next (at s g)))) 64
      (λ g j. bit_snoc (is_busy (at s g)) (at s g).channel next part)
      ∙ total_add (λ (g : ℕ). bit (is_busy (at s g) && among (at s g).channel part))
      (λ (g : ℕ). if among next part then 0 else bit (is_busy_on next (at s g))) 64

  pub joint-same : among next part ≡ true → busy_on (take (k + 1) order) s ≡ busy_on part s
  joint-same t =
      let e : total (λ g. if among next part then 0 else bit (is_busy_on next (at s g))) 64 ≡ total (λ g. 0) 64 =
      rw t in
      let z : total (λ g. 0) 64 ≡ 0 = total_zero 64 in
      let a = grown in
      omega arith

  pub joint_more : among next part ≡ false → busy_on (take (k + 1) order) s ≡ busy_on part s + busy_count s next
  unfolding busy_count
  joint_more t =
      let e : total (λ g. if among next part then 0 else bit (is_busy_on next (at s g))) 64
      ≡ total (λ g. bit (is_busy_on next (at s g))) 64 = rw t in
      let a = grown in
      omega arith

pub busy_64 : (l : List ℕ) (s : Generators) → busy_on l s ≤ 64
unfolding busy_on
busy_64 l s = total_bits (λ g. is_busy (at s g) && among (at s g).channel l) 64

bit_none : (b : Bool) → bit (b && false) ≡ 0
bit_none true = refl
bit_none false = refl

pub busy_none : (s : Generators) → busy_on [] s ≡ 0
unfolding busy_on
busy_none s = total-same (λ (g : ℕ). bit (is_busy (at s g) && false))
    (λ (g : ℕ). 0) 64 (λ g h. bit_none (is_busy (at s g))) ∙ total_zero 64

pub larger_max : (a b : ℕ) → max a b ≡ larger a b
larger_max a b = go (ltb a b) refl
  where
    go : (t : Bool) → ltb a b ≡ t → max a b ≡ (if t then b else a)
    go true e = let k = ltb-true a b e in omega arith
    go false e = let k = ltb-false a b e in omega arith

eqb_turn : (x y : ℕ) → eqb x y ≡ eqb y x
eqb_turn x y = go (eqb x y) (eqb y x) refl refl
  where
    go : (a b : Bool) → eqb x y ≡ a → eqb y x ≡ b → a ≡ b
    go true true p q = refl
    go true false p q = let e = eqb-true x y p in absurd (eqb-false y x q (sym e))
    go false true p q = let e = eqb-true y x q in absurd (eqb-false x y p (sym e))
    go false false p q = refl

-- the library's search is the definition's
pub any_among : (c : ℕ) (l : List ℕ) → list_any (λ y. eqb y c) l ≡ among c l
any_among c [] = refl
any_among c (x ∷ l) = rw (eqb_turn x c, any_among c l) refl

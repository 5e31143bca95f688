-- The values: each joint count is at most 64, and one channel more never lowers it, so that the values never fall.
-- Assumes nothing.
use mathlib.Core.Path.{◌≡◌, refl, sym, ap, ◌∙◌}
use mathlib.Core.Bool.{Bool, true, false, ◌&&◌, ◌||◌}
use mathlib.Core.List.{List, [], ◌∷◌, ◌++◌, append_assoc, append-nil}
use Prim.Native.Nat.{ℕ, zero, suc, ◌+◌, ◌≤◌}
use native.Mathlib.Nat.{add-zero}
use native.Mathlib.Omega.{arith}
use lib.Dec.{eqb}
use lib.ListN.{length, take}
use Rattle.loops.specs.Cases.{bit}
use Rattle.loops.specs.Passes.{up_to}
use Rattle.loops.proofs.Totals.{total_le, total_bits}
use Rattle.table.specs.Laws.{Rising}
use Rattle.generators.specs.Generators.{at, is_busy}
use Rattle.device.specs.declared.Device.{Device}
use Rattle.joint.specs.Joint.{among, busy_on, larger}
use Rattle.arranging.specs.Arranging.{largest, joint, values, listing}
use Rattle.arranging.proofs.Largest.{larger_left, larger-right, larger_le}

-- ---- joint counts

-- one channel more
among_more : (b : Bool) (c k : ℕ) (l : List ℕ) → bit (b && among c (take k l)) ≤ bit (b && among c (take (suc k) l))
among_more false c k l = omega arith
among_more true c zero l = omega arith
among_more true c (suc k) [] = omega arith
among_more true c (suc k) (x ∷ l) = go (eqb c x) (among_more true c k l)
  where
    go : (a : Bool) → bit (among c (take k l)) ≤ bit (among c (take (suc k) l))
        → bit (a || among c (take k l)) ≤ bit (a || among c (take (suc k) l))
    go true ih = omega arith
    go false ih = ih

pub joint_grows : (order : List ℕ) (k : ℕ) (d : Device) → joint order k d ≤ joint order (suc k) d
unfolding busy_on
joint_grows order k d =
    let s = d.instrument.generators in
    let e : suc k + 1 ≡ suc (k + 1) = omega arith in
    rw e (total_le (λ g. bit (is_busy (at s g) && among (at s g).channel (take (k + 1) order)))
    (λ g. bit (is_busy (at s g) && among (at s g).channel (take (suc (k + 1)) order))) 64
    (λ g. among_more (is_busy (at s g)) (at s g).channel (k + 1) order))

pub joint_64 : (order : List ℕ) (k : ℕ) (d : Device) → joint order k d ≤ 64
unfolding busy_on
joint_64 order k d =
    let s = d.instrument.generators in
    total_bits (λ g. is_busy (at s g) && among (at s g).channel (take (k + 1) order)) 64

-- ---- the largest

module _ {A : Type 0} where
  pub largest_le : (f : A → ℕ) (m : ℕ) (l : List A) → ((x : A) → f x ≤ m) → largest f l ≤ m
  unfolding largest
  largest_le f m [] h = omega arith
  largest_le f m (x ∷ l) h = larger_le (f x) (largest f l) m (h x) (largest_le f m l h)

  pub largest_grows : (f g : A → ℕ) (l : List A) → ((x : A) → f x ≤ g x) → largest f l ≤ largest g l
  unfolding largest
  largest_grows f g [] h = omega arith
  largest_grows f g (x ∷ l) h =
      let a = h x in
      let b = largest_grows f g l h in
      let c = larger_left (g x) (largest g l) in
      let d = larger-right (g x) (largest g l) in
      larger_le (f x) (largest f l) (larger (g x) (largest g l)) (omega arith) (omega arith)

-- ---- from the first on

abbrev pub from : (ℕ → ℕ) → ℕ → ℕ → List ℕ
from f i zero = []
from f i (suc n) = f i ∷ from f (suc i) n

up_to_more : (f : ℕ → ℕ) (i n : ℕ) → up_to f i ++ from f i n ≡ up_to f (i + n)
unfolding up_to
up_to_more f i zero = rw add-zero (append-nil (up_to f i))
up_to_more f i (suc n) =
    let e : i + suc n ≡ suc i + n = omega arith in
    sym (append_assoc (up_to f i) (f i ∷ []) (from f (suc i) n)) ∙ up_to_more f (suc i) n ∙ ap (up_to f) (sym e)

abbrev pub value_of : List ℕ → List Device → ℕ → ℕ
value_of order ds k = largest (joint order k) ds

pub values_from : (order : List ℕ) (ds : List Device) → values order ds ≡ from (value_of order ds) 0 16
unfolding values up_to
values_from order ds = sym (up_to_more (value_of order ds) 0 16)

pub length_from : (f : ℕ → ℕ) (i n : ℕ) → length (from f i n) ≡ n
length_from f i zero = refl
length_from f i (suc n) = ap suc (length_from f (suc i) n)

-- values never fall
pub rising : (f : ℕ → ℕ) → ((k : ℕ) → f k ≤ f (suc k))
    → (l : List ℕ) (v i n : ℕ) → v ≤ f i → Rising v (listing l (from f i n))
rising f h [] v i n p = tt
rising f h (c ∷ l) v i zero p = tt
rising f h (c ∷ l) v i (suc n) p = (p, rising f h l (f i) (suc i) n (h i))

pub value_grows : (order : List ℕ) (ds : List Device) (k : ℕ) → value_of order ds k ≤ value_of order ds (suc k)
value_grows order ds k = largest_grows (joint order k) (joint order (suc k)) ds (joint_grows order k)

pub value_64 : (order : List ℕ) (ds : List Device) (k : ℕ) → value_of order ds k ≤ 64
value_64 order ds k = largest_le (joint order k) 64 ds (joint_64 order k)

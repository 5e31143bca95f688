-- R14.8: no joint count after a line is above its value, and some line reaches it.
-- Assumes nothing.
use Rattle.std.specs.Prelude.{if◌then◌else◌}
use mathlib.Core.Path.{◌≡◌, refl, ap}
use mathlib.Core.Bool.{Bool, true, false}
use mathlib.Core.List.{List, [], ◌∷◌}
use Prim.Native.Nat.{ℕ, zero, suc, ◌-◌, ◌≤◌, ◌<◌}
use native.Mathlib.Omega.{arith}
use borrow.Author.Tests.{ltb-true}
use lib.Dec.{ltb}
use lib.ListN.{length, get_or}
use Rattle.loops.proofs.Fill.{at-up_to}
use Rattle.device.specs.declared.Device.{Device}
use Rattle.event_line.specs.Log.{event_of, lines_of}
use Rattle.arranging.specs.Arranging.{largest, joint, fresh, values, after_line, records}
use Rattle.arranging.proofs.Largest.{larger_left, larger-right}
use Rattle.arranged.specs.Laws.{record_after}
use Rattle.arranged.proofs.Values.{value_of}

-- a record for each line
pub length-records : (d : Device) (ls : List (List ℕ)) → length (records d ls) ≡ length ls
unfolding records
length-records d [] = refl
length-records d (l ∷ ls) = ap suc (length-records (after_line d (event_of l)) ls)

module _ {A : Type 0} (f : A → ℕ) (d : A) where
  below : (l : List A) (j : ℕ) → j < length l → f (get_or l j d) ≤ largest f l
  unfolding largest
  below [] j h = absurd (omega arith)
  below (x ∷ l) zero h = larger_left (f x) (largest f l)
  below (x ∷ l) (suc j) h = let a = below l j (omega arith) in let b = larger-right (f x) (largest f l) in omega arith

  -- some element is the largest
  reached : (l : List A) → 0 < largest f l → (j : ℕ) × ((j < length l) × (f (get_or l j d) ≡ largest f l))
  unfolding largest
  reached [] h = absurd (omega arith)
  reached (x ∷ l) h = go (ltb (f x) (largest f l)) refl (λ k. reached l k)
    where
      go : (t : Bool) → ltb (f x) (largest f l) ≡ t
          → (0 < largest f l → (j : ℕ) × ((j < length l) × (f (get_or l j d) ≡ largest f l)))
          → (j : ℕ) × ((j < suc (length l)) × (f (get_or (x ∷ l) j d) ≡ (if t then largest f l else f x)))
      go true e ih =
          let s = ltb-true (f x) (largest f l) e in
          let r = ih (omega arith) in
          (suc r.0, (let b = r.1.0 in omega arith, r.1.1))
      go false e ih = (0, (omega arith, refl))

-- the value at place k
pub value-at : (order : List ℕ) (ds : List Device) (k : ℕ) → k < 16 → get_or (values order ds) k 0 ≡ value_of order ds k
unfolding values
value-at order ds k h = at-up_to (value_of order ds) 0 16 k h

-- no line exceeds a value
pub never_above : (order log : List ℕ) (k j : ℕ) → k < 16 → j < length (lines_of log)
    → joint order k (record_after log j) ≤ get_or (values order (records fresh (lines_of log))) k 0
never_above order log k j h s =
    rw (value-at order (records fresh (lines_of log)) k h)
    (below (joint order k) fresh (records fresh (lines_of log)) j (rw (length-records fresh (lines_of log)) s))

-- a value above 0 made one lower is exceeded after some line
pub tight : (order log : List ℕ) (k : ℕ) → k < 16 → 0 < get_or (values order (records fresh (lines_of log))) k 0
    → (j : ℕ) × ((j < length (lines_of log))
    × (get_or (values order (records fresh (lines_of log))) k 0 - 1 < joint order k (record_after log j)))
tight order log k h s =
    let ds = records fresh (lines_of log) in
    let e = value-at order ds k h in
    let n = length-records fresh (lines_of log) in
    let r = reached (joint order k) fresh ds (omega arith) in
    let a = r.1.0 in
    let b = r.1.1 in
    (r.0, (omega arith, omega arith))

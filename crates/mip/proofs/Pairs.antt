-- The loop over the pairs of a MIP message: at each turn the judgement of the table so far and of the pairs that are left
-- is that of all pairs.
-- Assumes nothing.
use mathlib.Core.Path.{◌≡◌, refl, sym, ap, ◌∙◌}
use mathlib.Core.Bool.{true, false}
use mathlib.Core.List.{List, [], ◌∷◌, ◌++◌, append_assoc, append-nil}
use Prim.Native.Nat.{ℕ, ◌+◌, ◌*◌, ◌≤◌, ◌<◌}
use native.Mathlib.Omega.{arith}
use borrow.Author.Tests.{lt-ltb, le-ltb}
use lib.ListN.{length, set, get_or, length-append}
use Rattle.loops.proofs.Padded.{padded_push, length-padded}
use Rattle.std.specs.Prelude.{Result, Ok, Err}
use Rattle.refusals.specs.declared.Refusal.{Refusal}
use Rattle.refusals.specs.declared.Refusal.TheVariants as refusal
use Rattle.table.specs.declared.Entry.{Entry}
use Rattle.table.specs.declared.Table.{Table}
use Rattle.table.specs.Table.{entry, entries_of, table_of, listed}
use Rattle.table.proofs.Places.{entries_of-table}
use Rattle.mip.specs.Mip.{pairs, faulty, judged_by}

-- the first pair, and those after it
pairs_next : (w m : List ℕ) → length w ≡ 2 → pairs (w ++ m) ≡ entry (get_or w 0 0 + 1) (get_or w 1 0) ∷ pairs m
unfolding pairs
pairs_next [] m h = absurd (omega arith)
pairs_next (x ∷ []) m h = absurd (omega arith)
pairs_next (x ∷ y ∷ []) m h = refl
pairs_next (x ∷ y ∷ z ∷ w) m h = absurd (omega arith)

-- at most one byte is left
pairs_end : (l : List ℕ) → length l < 2 → pairs l ≡ []
unfolding pairs
pairs_end [] h = refl
pairs_end (x ∷ []) h = refl
pairs_end (x ∷ y ∷ l) h = absurd (omega arith)

-- there is room for a pair's entry, and for those after it
pub room : (l w m : List ℕ) (n : ℕ) → l ≡ w ++ m → length w ≡ 2 → 2 * n + length l ≤ 32
    → (n < 16) × (2 * (n + 1) + length m ≤ 32)
room l w m n e h k = let a : length l ≡ length w + length m = rw e (length-append w m) in (omega arith, omega arith)

-- a table with one entry more, of the lowest priority
abbrev pub pushed : Table → Entry → Table
pushed t e = record { count = t.count + 1; entries = set t.entries t.count e }

pushed-table : (l : List Entry) (e : Entry) → length l < 16 → pushed (table_of l) e ≡ table_of (l ++ (e ∷ []))
unfolding table_of
pushed-table l e h =
    let n : length (l ++ (e ∷ [])) ≡ length l + 1 = length-append l (e ∷ []) in
    rw (n, padded_push (entry 0 0) 16 l e h)

pub sixteen : (t : Table) → t ≡ table_of (entries_of t) → length t.entries ≡ 16
unfolding table_of
sixteen t s = ap (λ (x : Table). length x.entries) s ∙ length-padded (entry 0 0) 16 (entries_of t)

-- the table after a turn
pub one_entry_more : (t : Table) (e : Entry) → t ≡ table_of (entries_of t) → t.count < 16
    → (entries_of (pushed t e) ≡ entries_of t ++ (e ∷ [])) × (pushed t e ≡ table_of (entries_of (pushed t e)))
unfolding table_of
one_entry_more t e s h =
    let l = entries_of t ++ (e ∷ []) in
    let k : length (entries_of t) ≡ t.count = sym (ap (λ (x : Table). x.count) s) in
    let n : length l ≡ t.count + 1 = simp length-append (omega arith) in
    let q : pushed t e ≡ table_of l = ap (λ (x : Table). pushed x e) s ∙ pushed-table (entries_of t) e (omega arith) in
    let m : entries_of (pushed t e) ≡ l = ap entries_of q ∙ entries_of-table l (omega arith) in
    (m, q ∙ ap table_of (sym m))

-- a turn at the pair w, with the entries and the value before it and the judgement of all; the pair is judged by 7, 8
-- and 9 in this order
module _ (l w m : List ℕ) (v : ℕ) (before : List Entry) (all : Result Table Refusal) (e : l ≡ w ++ m) (h : length w ≡ 2)
    (so : judged_by (before ++ pairs l) (faulty before v (pairs l)) ≡ all) where
  pub not_a_channel : 15 < get_or w 0 0 → Err refusal.MipNoChannel ≡ all
  unfolding faulty
  not_a_channel a = rw (e, pairs_next w m h, lt-ltb 16 (get_or w 0 0 + 1) (omega arith)) at so

  pub listed_twice : get_or w 0 0 ≤ 15 → listed (get_or w 0 0 + 1) before ≡ true → Err refusal.MipListedTwice ≡ all
  unfolding faulty
  listed_twice a b = rw (e, pairs_next w m h, le-ltb 16 (get_or w 0 0 + 1) (omega arith), b) at so

  module _ (a : get_or w 0 0 ≤ 15) (b : listed (get_or w 0 0 + 1) before ≡ false) where
    pub value_falls : get_or w 1 0 < v → Err refusal.MipFallingValue ≡ all
    unfolding faulty
    value_falls c =
        rw (e, pairs_next w m h, le-ltb 16 (get_or w 0 0 + 1) (omega arith), b, lt-ltb (get_or w 1 0) v c) at so

    pub good_pair : v ≤ get_or w 1 0 → (after : List Entry)
        → after ≡ before ++ (entry (get_or w 0 0 + 1) (get_or w 1 0) ∷ [])
        → judged_by (after ++ pairs m) (faulty after (get_or w 1 0) (pairs m)) ≡ all
    unfolding faulty
    good_pair c after q =
        rw (q, append_assoc)
        (rw (e, pairs_next w m h, le-ltb 16 (get_or w 0 0 + 1) (omega arith), b, le-ltb (get_or w 1 0) v c) at so)

-- no pair is left
pub no_pair : (l : List ℕ) (v : ℕ) (t : Table) (all : Result Table Refusal) → length l < 2 → t ≡ table_of (entries_of t)
    → judged_by (entries_of t ++ pairs l) (faulty (entries_of t) v (pairs l)) ≡ all → Ok t ≡ all
unfolding faulty
no_pair l v t all h s so = ap (λ (u : Table). Ok u) s ∙ (rw (pairs_end l h, append-nil (entries_of t)) at so)

-- An accepted MIP message's table is that message, and well formed: each pair passed 7, 8 and 9 against all pairs
-- before it.
-- Assumes nothing.
use Rattle.std.specs.Prelude.{if◌then◌else◌}
use mathlib.Core.Path.{◌≡◌, refl, ap, ◌∙◌}
use mathlib.Core.Bool.{Bool, true, false, ◌||◌}
use mathlib.Core.List.{List, [], ◌∷◌, ◌++◌}
use mathlib.Core.Option.{Option, some, none}
use Prim.Native.Nat.{ℕ, ◌+◌, ◌*◌, ◌%◌, ◌≤◌}
use native.Mathlib.Omega.{arith}
use borrow.Author.Tests.{ltb-false, eqb-true, eq-eqb}
use lib.Dec.{eqb, ltb}
use lib.ListN.{length}
use Rattle.loops.proofs.Tests.{impossible}
use Rattle.std.specs.Prelude.{Ok, Err}
use Rattle.refusals.specs.declared.Refusal.{Refusal}
use Rattle.refusals.specs.declared.Refusal.TheVariants as refusal
use Rattle.table.specs.declared.Entry.{Entry}
use Rattle.table.specs.declared.Table.{Table}
use Rattle.table.specs.Laws.{Rising, Distinct, Channels, WellFormed}
use Rattle.table.specs.Table.{entry, entries_of, table_of, listed}
use Rattle.table.proofs.Places.{entries_of-table}
use Rattle.mip.specs.Laws.{AcceptedTable}
use Rattle.mip.specs.Mip.{pairs, faulty, judged_by, judged}

listed-append : (c : ℕ) (l m : List Entry) → listed c (l ++ m) ≡ listed c l || listed c m
unfolding listed
listed-append c [] m = refl
listed-append c (e ∷ l) m = go (eqb c e.channel) (listed-append c l m)
  where
    go : (b : Bool) → listed c (l ++ m) ≡ listed c l || listed c m
        → b || listed c (l ++ m) ≡ (b || listed c l) || listed c m
    go true ih = refl
    go false ih = ih

listed-last : (l : List Entry) (e : Entry) → listed e.channel (l ++ (e ∷ [])) ≡ true
unfolding listed
listed-last l e =
    listed-append e.channel l (e ∷ []) ∙ rw (eq-eqb e.channel e.channel refl) (go (listed e.channel l))
  where
    go : (b : Bool) → b || true ≡ true
    go true = refl
    go false = refl

-- what a pair without fault passed
record Passed (before : List Entry) (v : ℕ) (e : Entry) (l : List Entry) : Type 0 where
  channel : e.channel ≤ 16
  fresh : listed e.channel before ≡ false
  rises : v ≤ e.value
  others : faulty (before ++ (e ∷ [])) e.value l ≡ none

passed : (before : List Entry) (v : ℕ) (e : Entry) (l : List Entry)
    → faulty before v (e ∷ l) ≡ none → Passed before v e l
unfolding faulty
passed before v e l h = go (ltb 16 e.channel) refl (listed e.channel before) refl (ltb e.value v) refl h
  where
    go : (a : Bool) → ltb 16 e.channel ≡ a → (b : Bool)
        → listed e.channel before ≡ b → (c : Bool) → ltb e.value v ≡ c
        → (if a then some refusal.MipNoChannel else if b then some refusal.MipListedTwice else if c then some refusal.MipFallingValue else faulty (before ++ (e ∷ [])) e.value l)
        ≡ none → Passed before v e l
    go true p b q c r h = impossible (cc)
    go false p true q c r h = impossible (cc)
    go false p false q true r h = impossible (cc)
    go false p false q false r h =
        record { channel = ltb-false 16 e.channel p; fresh = q; rises = ltb-false e.value v r; others = h }

absurd_tests : {A : Type 0} (b : Bool) → b ≡ true → b ≡ false → A
absurd_tests b t f = impossible (cc)

-- a channel that stands before is not among the pairs
apart : (c : ℕ) (before : List Entry) (v : ℕ) (l : List Entry)
    → faulty before v l ≡ none → listed c before ≡ true → listed c l ≡ false
unfolding listed
apart c before v [] h t = refl
apart c before v (e ∷ l) h t =
    let p = passed before v e l h in
    go (eqb c e.channel) refl p.fresh
    (apart c (before ++ (e ∷ [])) e.value l p.others (listed-append c before (e ∷ []) ∙ rw t))
  where
    go : (b : Bool) → eqb c e.channel ≡ b → listed e.channel before ≡ false
        → listed c l ≡ false → b || listed c l ≡ false
    go true q f ih = absurd_tests (listed c before) t (ap (λ (x : ℕ). listed x before) (eqb-true c e.channel q) ∙ f)
    go false q f ih = ih

rising : (before : List Entry) (v : ℕ) (l : List Entry) → faulty before v l ≡ none → Rising v l
rising before v [] h = tt
rising before v (e ∷ l) h =
    let p = passed before v e l h in
    (p.rises, rising (before ++ (e ∷ [])) e.value l p.others)

distinct : (before : List Entry) (v : ℕ) (l : List Entry) → faulty before v l ≡ none → Distinct l
distinct before v [] h = tt
distinct before v (e ∷ l) h =
    let p = passed before v e l h in (
      apart e.channel (before ++ (e ∷ [])) e.value l p.others (listed-last before e),
      distinct (before ++ (e ∷ [])) e.value l p.others,
    )

-- each is at least channel 1, as mm is at least 0
channels : (before : List Entry) (v : ℕ) (l : List ℕ) → faulty before v (pairs l) ≡ none → Channels (pairs l)
unfolding pairs
channels before v [] h = tt
channels before v (m ∷ []) h = tt
channels before v (m ∷ w ∷ l) h =
    let e = entry (m + 1) w in
    let p = passed before v e (pairs l) h in
    ((omega arith, p.channel), channels (before ++ (e ∷ [])) w l p.others)

length_pairs : (l : List ℕ) → 2 * length (pairs l) ≤ length l
unfolding pairs
length_pairs [] = omega arith
length_pairs (m ∷ []) = omega arith
length_pairs (m ∷ v ∷ l) = let k = length_pairs l in omega arith

-- the pairs of an accepted message
well_formed : (l : List ℕ) → length l ≤ 32 → faulty [] 0 (pairs l) ≡ none → WellFormed (pairs l)
well_formed l h n = record {
  short = let k = length_pairs l in omega arith;
  rising = rising [] 0 (pairs l) n;
  distinct = distinct [] 0 (pairs l) n;
  channels = channels [] 0 l n;
}

-- the table is the one that the message is judged to give
pub accepted : (l : List ℕ) (t : Table) → judged l ≡ Ok t → AcceptedTable l t
unfolding judged
accepted l t h =
    go (ltb 32 (length l)) refl (eqb (length l) 0 || eqb (length l % 2) 1) (faulty [] 0 (pairs l)) refl h
  where
    go : (a : Bool) → ltb 32 (length l) ≡ a → (b : Bool) → (o : Option Refusal) → faulty [] 0 (pairs l) ≡ o
        → (if a then Err refusal.MipTooLong else if b then Err refusal.MipOddLength else judged_by (pairs l) o) ≡ Ok t
        → AcceptedTable l t
    go true p b o r h = impossible (cc)
    go false p true o r h = impossible (cc)
    go false p false (some n) r h = impossible (cc)
    go false p false none r h =
        let w = well_formed l (ltb-false 32 (length l) p) r in
        let s : t ≡ table_of (pairs l) = cc in
        record { table = s; entries = ap entries_of s ∙ entries_of-table (pairs l) w.short; well_formed = w }

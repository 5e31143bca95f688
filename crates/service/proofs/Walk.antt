-- Where a channel stands in a list of entries: at the first place whose entry is the channel's.
-- Assumes nothing.
use Rattle.std.specs.Prelude.{Option, Some, None, if◌then◌else◌}
use Rattle.std.specs.List.{position_or_len}
use mathlib.Core.Path.{◌≡◌, refl, ◌∙◌}
use mathlib.Core.Bool.{Bool, true, false, cond, not}
use mathlib.Core.List.{List, [], ◌∷◌}
use Prim.Native.Nat.{ℕ, suc, ◌+◌}
use native.Mathlib.Omega.{arith}
use borrow.Author.Tests.{ltb-true, ltb-false, lt-ltb, le-ltb}
use lib.Dec.{eqb, ltb}
use lib.ListN.{length, get_or}
use Rattle.table.specs.declared.Entry.{Entry}
use Rattle.service.specs.declared.Standing.{Standing}
use Rattle.service.specs.Page.{standing_from}

abbrev pub is_its : ℕ → Entry → Bool
is_its c e = eqb c e.channel

-- what is found at place i of a list, the first of which counts as k
abbrev pub found_at : ℕ → List Entry → Entry → ℕ → Option Standing
found_at k l d i =
    if ltb i (length l) then Some (record { place = i + k; value = (get_or l i d).value }) else None

within_next : (i n : ℕ) → ltb (1 + i) (suc n) ≡ ltb i n
within_next i n = go (ltb i n) refl
  where
    go : (b : Bool) → ltb i n ≡ b → ltb (1 + i) (suc n) ≡ b
    go true e = let h = ltb-true i n e in lt-ltb (1 + i) (suc n) (omega arith)
    go false e = let h = ltb-false i n e in le-ltb (1 + i) (suc n) (omega arith)

module _ (c : ℕ) (d : Entry) where
  next : (k i : ℕ) (e : Entry) (l : List Entry) → found_at (k + 1) l d i ≡ found_at k (e ∷ l) d (1 + i)
  next k i e l =
      let s : 1 + i ≡ suc i = omega arith in
      let q : suc i + k ≡ i + (k + 1) = omega arith in
      rw (within_next i (length l), s, q) refl

  pub standing_place : (k : ℕ) (l : List Entry) → standing_from k c l ≡ found_at k l d (position_or_len (is_its c) l)
  unfolding standing_from
  standing_place k [] = refl
  standing_place k (e ∷ l) = go (eqb c e.channel) (standing_place (k + 1) l)
    where
      rest : ℕ
      rest = position_or_len (is_its c) l

      go : (b : Bool) → standing_from (k + 1) c l ≡ found_at (k + 1) l d rest
          → cond b (Some (record { place = k; value = e.value })) (standing_from (k + 1) c l)
          ≡ found_at k (e ∷ l) d (cond (not b) (1 + rest) 0)
      go true ih = let z : 0 + k ≡ k = omega arith in rw (z, lt-ltb 0 (suc (length l)) (omega arith)) refl
      go false ih = ih ∙ next k rest e l

-- what `position` answers of a list
module _ (k : ℕ) (l : List Entry) (d : Entry) (i : ℕ) where
  pub found_none : cond (ltb i (length l)) (Some i) None ≡ None → found_at k l d i ≡ None
  found_none h = go (ltb i (length l)) h
    where
      go : (b : Bool) → cond b (Some i) None ≡ None
          → cond {A = Option Standing} b (Some (record { place = i + k; value = (get_or l i d).value })) None ≡ None
      go true h = absurd (cc)
      go false h = refl

  pub found_some : (j : ℕ) → cond (ltb i (length l)) (Some i) None ≡ Some j
      → found_at k l d i ≡ Some (record { place = j + k; value = (get_or l j d).value })
  found_some j h = go (ltb i (length l)) h
    where
      go : (b : Bool) → cond b (Some i) None ≡ Some j
          → cond {A = Option Standing} b (Some (record { place = i + k; value = (get_or l i d).value })) None
          ≡ Some (record { place = j + k; value = (get_or l j d).value })
      go true h = let e : i ≡ j = cc in rw e refl
      go false h = absurd (cc)

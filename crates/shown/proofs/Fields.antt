-- Where a line stands in the page, and a field in its line.
-- Assumes nothing.
use Rattle.std.specs.Prelude.{Option, Some, None}
use Prim.Native.Nat.{ℕ, zero, suc, ◌+◌, ◌*◌, ◌≤◌, ◌<◌}
use mathlib.Core.Path.{◌≡◌, refl, ap, ◌∙◌}
use mathlib.Core.Bool.{Bool, true, false}
use mathlib.Core.List.{List, [], ◌∷◌, ◌++◌}
use native.Mathlib.Omega.{arith}
use borrow.Author.Tests.{ltb-true, ltb-false}
use lib.Dec.{ltb}
use lib.ListN.{length, take, drop, length-drop}
use lib.Seq.{take_all, take-append-le, drop-append-le, drop-append-add, drop_at}
use Rattle.table.specs.declared.Entry.{Entry}
use Rattle.service.specs.declared.Standing.{Standing}
use Rattle.service.specs.Page.{in_two, in_three, place_field, value_field}
use Rattle.service.specs.Page.{share_field, mark, head, line, row, rows_to, page_of}
use Rattle.service.proofs.Lines.{row-length, rows_length}
use Rattle.shown.specs.Shown.{line_at}

module _ (t : List Entry) (p : ℕ) (busy : ℕ → ℕ) where
  row_at : (n k : ℕ) → k < n → take 19 (drop (19 * k) (rows_to t p busy n)) ≡ row t p busy (suc k)
  unfolding rows_to
  row_at zero k h = absurd (omega arith)
  row_at (suc n) k h = go (ltb k n) refl (row_at n k)
    where
      rows : length (rows_to t p busy n) ≡ 19 * n
      rows = rows_length t p busy n

      last : length (row t p busy (suc n)) ≡ 19
      last = row-length t p busy (suc n)

      go : (b : Bool) → ltb k n ≡ b → (k < n → take 19 (drop (19 * k) (rows_to t p busy n)) ≡ row t p busy (suc k))
          → take 19 (drop (19 * k) (rows_to t p busy n ++ row t p busy (suc n))) ≡ row t p busy (suc k)
      go true e ih =
          let i = ltb-true k n e in
          let r = rows in
          let d = length-drop (19 * k) (rows_to t p busy n) in
          rw (
            drop-append-le (19 * k) (rows_to t p busy n) (row t p busy (suc n)) (omega arith),
            take-append-le 19 (drop (19 * k) (rows_to t p busy n)) (row t p busy (suc n)) (omega arith),
          ) (ih i)
      go false e ih =
          let i = ltb-false k n e in
          let q : k ≡ n = omega arith in
          let l = last in
          rw (q, drop_at (rows_to t p busy n) (row t p busy (suc n)) (19 * n) rows)
          (take_all 19 (row t p busy (suc n)) (omega arith))

  -- line 0 is the head, line c that of channel c
  pub head_at : line_at 0 (page_of t p busy) ≡ head
  unfolding page_of head
  head_at = refl

  pub line_at_lem : (c : ℕ) → 1 ≤ c → c ≤ 16 → line_at c (page_of t p busy) ≡ row t p busy c
  unfolding page_of head
  line_at_lem zero lo hi = absurd (omega arith)
  line_at_lem (suc k) lo hi =
      let e : 19 * suc k ≡ 19 + 19 * k = omega arith in
      rw e
      (ap (λ (l : List ℕ). take 19 l) (drop-append-add head (rows_to t p busy 16) (19 * k)) ∙ row_at 16 k (omega arith))

-- the fields of a line
module _ (c : ℕ) (at : Option Standing) (s : Option ℕ) (busy : ℕ) where
  abbrev cut : ℕ → ℕ → List ℕ
  cut a w = take w (drop a (line c at s busy))

  pub cut_channel : cut 0 2 ≡ in_two c
  unfolding line in_two
  cut_channel = refl

  pub cut_place : cut 3 2 ≡ place_field at
  unfolding line in_two
  cut_place = go at
    where
      go : (x : Option Standing) → take 2 (drop 3 (line c x s busy)) ≡ place_field x
      go (Some k) = refl
      go None = refl

  pub cut_value : cut 6 3 ≡ value_field at
  unfolding line in_two in_three
  cut_value = go at
    where
      go : (x : Option Standing) → take 3 (drop 6 (line c x s busy)) ≡ value_field x
      go (Some k) = refl
      go None = refl

  pub cut_share : cut 10 3 ≡ share_field s
  unfolding line in_two in_three
  cut_share = go at s
    where
      go : (x : Option Standing) (y : Option ℕ) → take 3 (drop 10 (line c x y busy)) ≡ share_field y
      go (Some k) None = refl
      go (Some k) (Some n) = refl
      go None None = refl
      go None (Some n) = refl

  pub cut_mark : cut 14 1 ≡ mark s ∷ []
  unfolding line in_two in_three
  cut_mark = go at s
    where
      go : (x : Option Standing) (y : Option ℕ) → take 1 (drop 14 (line c x y busy)) ≡ mark y ∷ []
      go (Some k) None = refl
      go (Some k) (Some n) = refl
      go None None = refl
      go None (Some n) = refl

  pub cut_notes : cut 16 2 ≡ in_two busy
  unfolding line in_two in_three
  cut_notes = go at s
    where
      go : (x : Option Standing) (y : Option ℕ) → take 2 (drop 16 (line c x y busy)) ≡ in_two busy
      go (Some k) None = refl
      go (Some k) (Some n) = refl
      go None None = refl
      go None (Some n) = refl

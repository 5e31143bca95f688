-- The definitions give what the rules say, field by field, of a table that has all kinds of channels among 24
-- generators: 1, 10, 3 and 16 in this order, with values 2, 12, 12 and 100, of which the last is above P. And what the
-- buffer keeps.
-- Assumes nothing.
use Rattle.std.specs.Prelude.{Ok, Err}
use Prim.Native.Nat.{ℕ, ◌≤◌, ◌<◌}
use mathlib.Core.Path.{◌≡◌, refl}
use mathlib.Core.List.{List, [], ◌∷◌}
use mathlib.Core.Option.{some}
use lib.ListN.{length, take, drop, replicate}
use lib.Seq.{drop_at}
use borrow.Author.Tests.{lt-ltb, le-ltb}
use Rattle.refusals.specs.declared.Refusal.TheVariants as refusal
use Rattle.table.specs.declared.Entry.{Entry}
use Rattle.table.specs.Table.{entry}
use Rattle.shares.specs.Shares.{shares_from, lookup}
use Rattle.device.specs.declared.Device.{Device}
use Rattle.service.specs.Page.{in_two, in_three, standing_from, head, line, row, rows_to}
use Rattle.service.specs.Page.{page_of, page_text, page_after, page_answer, page_number}
use Rattle.service.proofs.Lines.{page-length}

abbrev four : List Entry
four = entry 1 2 ∷ entry 10 12 ∷ entry 3 12 ∷ entry 16 100 ∷ []

-- the line of a channel with so many notes; w of its characters, from the one at a on
abbrev cut : ℕ → ℕ → ℕ → ℕ → List ℕ
cut a w c notes = take w (drop a (row four 24 (λ d. notes) c))

-- channel 10 with 7 notes: `10  2  12  10 -  7`
pub whole-line : row four 24 (λ d. 7) 10
    ≡ 49 ∷ 48 ∷ 32 ∷ 32 ∷ 50 ∷ 32 ∷ 32 ∷ 49 ∷ 50 ∷ 32 ∷ 32 ∷ 49 ∷ 48 ∷ 32 ∷ 45 ∷ 32 ∷ 32 ∷ 55 ∷ 10 ∷ []
unfolding in_two in_three standing_from shares_from lookup line row
whole-line = refl

-- `place in the order (from 1)`
pub first-place : cut 3 2 1 0 ≡ 32 ∷ 49 ∷ []
unfolding in_two in_three standing_from shares_from lookup line row
first-place = refl

-- channel 16 is listed and masked: its value is there, its share is not
pub value_of_a-masked_one : cut 6 3 16 0 ≡ 49 ∷ 48 ∷ 48 ∷ []
unfolding in_two in_three standing_from shares_from lookup line row
value_of_a-masked_one = refl

pub share_of_a-masked_one : cut 10 3 16 0 ≡ 45 ∷ 45 ∷ 45 ∷ []
unfolding in_two in_three standing_from shares_from lookup line row
share_of_a-masked_one = refl

-- channel 3 has a share of 0, and is not masked
pub share_0 : cut 10 5 3 0 ≡ 32 ∷ 32 ∷ 48 ∷ 32 ∷ 45 ∷ []
unfolding in_two in_three standing_from shares_from lookup line row
share_0 = refl

-- channel 2 is not listed: `--`, and `M`
pub unlisted_place : cut 3 2 2 0 ≡ 45 ∷ 45 ∷ []
unfolding in_two in_three standing_from shares_from lookup line row
unlisted_place = refl

pub unlisted_mark : cut 14 1 2 0 ≡ 77 ∷ []
unfolding in_two in_three standing_from shares_from lookup line row
unlisted_mark = refl

-- 64 notes
pub all_notes : cut 16 2 1 64 ≡ 54 ∷ 52 ∷ []
unfolding in_two in_three standing_from shares_from lookup line row
all_notes = refl

-- the last line is that of channel 16
pub last_line : drop 304 (page_of four 24 (λ c. c))
    ≡ 49 ∷ 54 ∷ 32 ∷ 32 ∷ 52 ∷ 32 ∷ 49 ∷ 48 ∷ 48 ∷ 32 ∷ 45 ∷ 45 ∷ 45 ∷ 32 ∷ 77 ∷ 32 ∷ 49 ∷ 54 ∷ 10 ∷ []
unfolding in_two in_three standing_from shares_from lookup head line row rows_to page_of
last_line = refl

-- there are lines of sixteen channels: the last begins with 16
pub last-channel : take 2 (drop 304 (page_of four 24 (λ c. c))) ≡ 49 ∷ 54 ∷ []
unfolding in_two in_three standing_from shares_from lookup head line row rows_to page_of
last-channel = refl

-- ---- the buffer

-- R15.7: the bytes behind the page stay
behind_a-page : (d : Device) (old : List ℕ) → length (page_text d) ≡ 323
    → 323 ≤ length old → drop 323 (page_after d old) ≡ drop 323 old
unfolding page_after
behind_a-page d old n h = rw (le-ltb (length old) 323 h) (drop_at (page_text d) (drop 323 old) 323 n)

pub kept-behind : (d : Device) (old : List ℕ) → 323 ≤ length old → drop 323 (page_after d old) ≡ drop 323 old
kept-behind d old h = behind_a-page d old (page-length d) h

-- R15.7: a short buffer stays as it was
pub untouched : (d : Device) (old : List ℕ) → length old < 323 → page_after d old ≡ old
unfolding page_after
untouched d old h = rw (lt-ltb (length old) 323 h) refl

-- R8.18: from 323 bytes on the page is written
pub under_323 : (page_answer (replicate 322 0) ≡ Err refusal.ShortPage) × (page_answer (replicate 323 0) ≡ Ok tt)
unfolding page_answer
under_323 = (refl, refl)

pub number_18 : page_number (Err refusal.ShortPage) ≡ some 18
number_18 = refl

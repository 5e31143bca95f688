-- The service page (section 15 of docs/RULES.md). R15.1: 17 lines of 18 characters and 0AH each, 323 bytes, in ASCII.
-- Assumes nothing.
use Rattle.std.specs.Prelude.{ℕ, zero, suc, ◌+◌, ◌/◌, ◌%◌, List, [], ◌∷◌, ◌++◌, eqb, ltb, length, drop, if◌then◌else◌}
use Rattle.std.specs.Prelude.{Option, Some, None, Result, Ok, Err}
use Rattle.std.proofs.Math.Option.{Option as Maybe, some, none}
use Rattle.refusals.specs.declared.Refusal.{Refusal}
use Rattle.refusals.specs.declared.Refusal.TheVariants as refusal
use Rattle.refusals.specs.Refusals.{number}
use Rattle.table.specs.declared.Entry.{Entry}
use Rattle.table.specs.Table.{entries_of}
use Rattle.shares.specs.Shares.{shares_from, lookup}
use Rattle.candidates.specs.Candidates.{busy_count}
use Rattle.device.specs.declared.Device.{Device}
use Rattle.service.specs.declared.Standing.{Standing}

-- ---- the fields

-- R15.4: a number below 100 in two places, one below 1000 in three. A blank is byte 32, digit 0 is byte 48
unfoldable pub in_two : ℕ → List ℕ
in_two n = (if ltb n 10 then 32 else 48 + n / 10) ∷ (48 + n % 10) ∷ []

unfoldable pub in_three : ℕ → List ℕ
in_three n = (if ltb n 100 then 32 else 48 + n / 100) ∷ (if ltb n 10 then 32 else 48 + n / 10 % 10) ∷ (48 + n % 10) ∷ []

-- where a channel stands in a table, its place and its value; k is the place of the first entry here
unfoldable pub standing_from : ℕ → ℕ → List Entry → Option Standing
standing_from k c [] = None
standing_from k c (e ∷ l) = if eqb c e.channel then Some (record { place = k; value = e.value }) else standing_from (k + 1) c l

-- R15.6: dashes, byte 45, where there is nothing to say
abbrev pub place_field : Option Standing → List ℕ
place_field (Some s) = in_two s.place
place_field None = 45 ∷ 45 ∷ []

abbrev pub value_field : Option Standing → List ℕ
value_field (Some s) = in_three s.value
value_field None = 45 ∷ 45 ∷ 45 ∷ []

abbrev pub share_field : Option ℕ → List ℕ
share_field None = 45 ∷ 45 ∷ 45 ∷ []
share_field (Some n) = in_three n

-- R15.5: `M` or a dash
abbrev pub mark : Option ℕ → ℕ
mark None = 77
mark (Some n) = 45

-- ---- the lines

-- R15.2: the head
unfoldable pub head : List ℕ
head = 67 ∷ 72 ∷ 32 ∷ 80 ∷ 82 ∷ 32 ∷ 86 ∷ 65 ∷ 76 ∷ 32 ∷ 83 ∷ 72 ∷ 82 ∷ 32 ∷ 77 ∷ 32 ∷ 78 ∷ 84 ∷ 10 ∷ []

-- R15.3: channel, place, value, share, mark and busy generators, with blanks between them, and the line's end
unfoldable pub line : ℕ → Option Standing → Option ℕ → ℕ → List ℕ
line c at share busy =
    in_two c ++ 32 ∷ place_field at ++ 32 ∷ value_field at ++ 32 ∷ share_field share
    ++ 32 ∷ mark share ∷ 32 ∷ in_two busy ++ 10 ∷ []

-- the line of channel c, of a table, P, and each channel's number of busy generators
unfoldable pub row : List Entry → ℕ → (ℕ → ℕ) → ℕ → List ℕ
row table p busy c = line c (standing_from 1 c table) (lookup c (shares_from p 0 table)) (busy c)

-- those of channels 1 to n
unfoldable pub rows_to : List Entry → ℕ → (ℕ → ℕ) → ℕ → List ℕ
rows_to table p busy zero = []
rows_to table p busy (suc n) = rows_to table p busy n ++ row table p busy (suc n)

-- R15.3: channels 1 to 16 below the head
unfoldable pub page_of : List Entry → ℕ → (ℕ → ℕ) → List ℕ
page_of table p busy = head ++ rows_to table p busy 16

-- the page of a device
unfoldable pub page_text : Device → List ℕ
page_text d =
    page_of (entries_of d.instrument.table) d.instrument.polyphony (busy_count d.instrument.generators)

-- ---- the call

-- R15.7, R8.18: the buffer after it: a short one stays as it was, and so do the bytes behind the page
unfoldable pub page_after : Device → List ℕ → List ℕ
page_after d old = if ltb (length old) 323 then old else page_text d ++ drop 323 old

unfoldable pub page_answer : List ℕ → Result Unit Refusal
page_answer old = if ltb (length old) 323 then Err refusal.ShortPage else Ok tt

abbrev pub page_number : Result Unit Refusal → Maybe ℕ
page_number (Ok u) = none
page_number (Err r) = some (number r)

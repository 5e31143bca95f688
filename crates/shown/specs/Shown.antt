-- What the service page shows, said without its code: the page is that of the note book of demand 3; it agrees with
-- the queries; and its bytes are 17 lines of text.
-- Assumes nothing.
use Rattle.std.specs.Prelude.{ℕ, ◌+◌, ◌-◌, ◌*◌, ◌≤◌, ◌<◌, ◌≡◌, Bool, true, false, ◌&&◌, ◌||◌, eqb}
use Rattle.std.specs.Prelude.{List, [], ◌∷◌, ◌++◌, length, take, drop, get_or, replicate, Result, Ok, Err}
use Rattle.refusals.specs.declared.Refusal.{Refusal}
use Rattle.loops.specs.Cases.{bit}
use Rattle.loops.specs.Passes.{total}
use Rattle.table.specs.declared.Entry.{Entry}
use Rattle.table.specs.declared.Table.{Table}
use Rattle.table.specs.Table.{entries_of}
use Rattle.generators.specs.Generators.{held, sustained}
use Rattle.device.specs.declared.Device.{Device}
use Rattle.events.specs.declared.Event.{Event}
use Rattle.queries.specs.declared.GeneratorState.{GeneratorState}
use Rattle.queries.specs.Queries.{generator_query, mask_query, share_query}
use Rattle.event_line.specs.Log.{decimal}
use Rattle.service.specs.Page.{in_two, in_three, standing_from, place_field, value_field, page_of, page_text}
use Rattle.note_book.specs.Book.{Book, notes_on}
use Rattle.note_book.specs.Claim.{after, Live, begin}

-- ---- the note book's page

-- of its table, its P, and its notes on each channel; nothing of it looks at the record
abbrev pub book_page : Book → List ℕ
book_page b = page_of b.table b.polyphony (λ c. notes_on b.polyphony c b.notes)

-- R15.9: for every start, a refused one too, and every list of bytes and reports the page of the device is the book's
abbrev pub ShowsTheBook : Type 0
ShowsTheBook =
    (p id : ℕ) (l : List Event)
    → page_text (after Live (begin p id) l).device ≡ book_page (after Live (begin p id) l).book

-- ---- the queries

-- a share and a mask as the queries answer them, in the page's characters
abbrev pub share_told : Result Bool Refusal → Result ℕ Refusal → List ℕ
share_told (Ok false) (Ok n) = in_three n
share_told (Ok false) (Err r) = []
share_told (Ok true) a = 45 ∷ 45 ∷ 45 ∷ []
share_told (Err r) a = []

abbrev pub mark_told : Result Bool Refusal → List ℕ
mark_told (Ok true) = 77 ∷ []
mark_told (Ok false) = 45 ∷ []
mark_told (Err r) = []

-- a generator that a query tells to be held or sustained; one on channel c
abbrev pub is_busy_told : Result GeneratorState Refusal → Bool
is_busy_told (Ok s) = eqb s.state held || eqb s.state sustained
is_busy_told (Err r) = false

abbrev pub is_on_told : ℕ → Result GeneratorState Refusal → Bool
is_on_told c (Ok s) = eqb s.channel c
is_on_told c (Err r) = false

-- how many of the 256 numbers that one may ask for are busy on channel c; and how many are busy at all
abbrev pub busy_told : Device → ℕ → ℕ
busy_told d c = total (λ g. bit (is_busy_told (generator_query d g) && is_on_told c (generator_query d g))) 256

abbrev pub all_busy_told : Device → ℕ
all_busy_told d = total (λ g. bit (is_busy_told (generator_query d g))) 256

-- line n of a text whose lines have 19 bytes, from 0; a field of the line of channel c, from character a on, w of them
abbrev pub line_at : ℕ → List ℕ → List ℕ
line_at n text = take 19 (drop (19 * n) text)

abbrev pub field : ℕ → ℕ → ℕ → Device → List ℕ
field a w c d = take w (drop a (line_at c (page_text d)))

-- the line of a channel, field by field: `CH`, `SHR`, `M` and `NT` by the queries, `PR` and `VAL`, for which there are
-- none, by the table
pub record Agrees (d : Device) (c : ℕ) : Type 0 where
  pub channel : field 0 2 c d ≡ in_two c
  pub place : field 3 2 c d ≡ place_field (standing_from 1 c (entries_of d.instrument.table))
  pub value : field 6 3 c d ≡ value_field (standing_from 1 c (entries_of d.instrument.table))
  pub share : field 10 3 c d ≡ share_told (mask_query d c) (share_query d c)
  pub mark : field 14 1 c d ≡ mark_told (mask_query d c)
  pub notes : field 16 2 c d ≡ in_two (busy_told d c)

-- R15.10: of every such device
abbrev pub AgreesWithQueries : Type 0
AgreesWithQueries = (p id : ℕ) (l : List Event) (c : ℕ) → 1 ≤ c → c ≤ 16 → Agrees (after Live (begin p id) l).device c

-- a number in two places, read off its characters: a blank, 32, is less than digit 0, 48, and counts as 0
abbrev pub read_two : List ℕ → ℕ
read_two text = (get_or text 0 0 - 48) * 10 + (get_or text 1 0 - 48)

-- R15.8: what stands under `NT` comes to the number of busy generators
abbrev pub NotesAddUp : Type 0
NotesAddUp =
    (p id : ℕ) (l : List Event)
    → total (λ i. read_two (field 16 2 (i + 1) (after Live (begin p id) l).device)) 16
    ≡ all_busy_told (after Live (begin p id) l).device

-- ---- the text

-- R15.1: a line is 18 characters and 0AH; a character is one that can be printed, a blank among them
abbrev pub Characters : List ℕ → Type 0
Characters [] = Unit {0}
Characters (x ∷ l) = ((32 ≤ x) × (x ≤ 126)) × Characters l

pub record IsLine (bytes : List ℕ) : Type 0 where
  pub text : List ℕ
  pub ended : bytes ≡ text ++ 10 ∷ []
  pub characters : Characters text
  pub eighteen : length text ≡ 18

-- a table of the record that C lends: sixteen entries, and its values are bytes
abbrev pub Bytes : List Entry → Type 0
Bytes [] = Unit {0}
Bytes (e ∷ l) = (e.value < 256) × Bytes l

pub record OfBytes (t : Table) : Type 0 where
  pub sixteen : length t.entries ≡ 16
  pub values : Bytes t.entries

-- for every record of bytes, also one that no call makes
abbrev pub SeventeenLines : Type 0
SeventeenLines =
    (d : Device) → OfBytes d.instrument.table
    → (length (page_text d) ≡ 323) × ((n : ℕ) → n < 17 → IsLine (line_at n (page_text d)))

-- R15.4: a number ends where its places end, with blanks before it
abbrev pub right : ℕ → List ℕ → List ℕ
right w text = replicate (w - length text) 32 ++ text

abbrev pub RightAligned : Type 0
RightAligned = (n : ℕ) → (n < 100 → in_two n ≡ right 2 (decimal n)) × (n < 1000 → in_three n ≡ right 3 (decimal n))

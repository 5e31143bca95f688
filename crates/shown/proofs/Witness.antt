-- The claims bite. First their words: a claim emptied behind its name would not give these facts. Then a page, computed
-- from the definitions: what stands on it after a list of bytes.
-- Assumes nothing.
use Rattle.std.specs.Prelude.{Ok}
use Prim.Native.Nat.{ℕ, zero, suc, ◌+◌, ◌*◌, ◌<◌}
use mathlib.Core.Path.{◌≡◌, refl, ap, ◌∙◌}
use mathlib.Core.Bool.{true, false, ◌&&◌}
use mathlib.Core.List.{List, [], ◌∷◌, ◌++◌}
use native.Mathlib.Omega.{arith}
use lib.ListN.{length, take, drop, replicate, length-append}
use Rattle.loops.specs.Cases.{bit}
use Rattle.loops.specs.Passes.{up_to, total, filter_by, first_of, padded}
use Rattle.splitter.specs.Split.{begun, stored, one_data_byte, completed, data_byte, opened, ended, status_byte, split}
use Rattle.message.specs.Message.{decode}
use Rattle.table.specs.declared.Entry.{Entry}
use Rattle.table.specs.declared.Table.{Table}
use Rattle.table.specs.Table.{entry, entries_of, table_of, start_table, listed}
use Rattle.shares.specs.Shares.{shares_from, lookup, share_of}
use Rattle.sysex.specs.SysEx.{is_mip, is_system_on, kind_of}
use Rattle.mip.specs.Mip.{pairs, faulty, judged}
use Rattle.drums.specs.Drums.{group_of, excludes}
use Rattle.channels.specs.Channel as of-channel
use Rattle.controllers.specs.Controllers as of-controllers
use Rattle.ages.specs.Ages.{ages_of, newest}
use Rattle.generators.specs.Generators.{assigned, silent}
use Rattle.releases.specs.Releases.{changes, state_after, changed}
use Rattle.silence.specs.Silence.{is_among, leaves, silenced}
use Rattle.candidates.specs.Candidates.{lowest_idle, wanted, oldest, busy_count}
use Rattle.stealing.specs.Stealing.{over_share, steal_from, victim}
use Rattle.allocation.specs.Allocation.{cleared, choice, note_on}
use Rattle.instrument.specs.Instrument.{fresh, channel_at, replaced, channel_of, with_channel, is_rhythm}
use Rattle.masking.specs.Masking.{masked}
use Rattle.other_messages.specs.OtherMessages.{notes_after, play_control, play_note_off}
use Rattle.playing.specs.Playing.{play_note_on, played}
use Rattle.exclusive.specs.Exclusive.{new_table, mip_taken, exclusive}
use Rattle.reports.specs.Reports.{reported}
use Rattle.device.specs.declared.Device.{Device}
use Rattle.device.specs.Device.{started, heard, byte_taken}
use Rattle.events.specs.declared.Event.{Event}
use Rattle.events.specs.declared.Event.TheVariants.{Byte}
use Rattle.events.specs.Events.{report_taken, taken}
use Rattle.queries.specs.Queries.{generator_query, mask_query, share_query}
use Rattle.event_line.specs.Log.{decimal}
use Rattle.service.specs.Page.{in_two, in_three, standing_from, place_field, value_field}
use Rattle.service.specs.Page.{head, line, row, rows_to, page_of, page_text}
use Rattle.note_book.specs.Book.{notes_on}
use Rattle.note_book.specs.Claim.{after, Live, begin}
use Rattle.shown.specs.Shown.{ShowsTheBook, is_busy_told, is_on_told, read_two, line_at}
use Rattle.shown.specs.Shown.{field, Agrees, AgreesWithQueries, NotesAddUp, Characters}
use Rattle.shown.specs.Shown.{IsLine, Bytes, OfBytes, SeventeenLines, RightAligned}

-- ---- the words

-- any P and own ID, refused or not, and any list: the book's table, P and notes
pub any_list : ShowsTheBook → (p id : ℕ) (l : List Event)
    → let b = (after Live (begin p id) l).book in
    page_text (after Live (begin p id) l).device
    ≡ page_of b.table b.polyphony (λ c. notes_on b.polyphony c b.notes)
any_list a = a

-- the first channel and the last
pub both_ends : AgreesWithQueries → (p id : ℕ) (l : List Event)
    → Agrees (after Live (begin p id) l).device 1 × Agrees (after Live (begin p id) l).device 16
both_ends a p id l = (a p id l 1 (omega arith) (omega arith), a p id l 16 (omega arith) (omega arith))

module _ (d : Device) (c : ℕ) (a : Agrees d c) where
  pub channel_shown : field 0 2 c d ≡ in_two c
  channel_shown = a.channel

  pub place_shown : field 3 2 c d ≡ place_field (standing_from 1 c (entries_of d.instrument.table))
  place_shown = a.place

  pub value_shown : field 6 3 c d ≡ value_field (standing_from 1 c (entries_of d.instrument.table))
  value_shown = a.value

  pub mask_shown : mask_query d c ≡ Ok true → (field 14 1 c d ≡ 77 ∷ []) × (field 10 3 c d ≡ 45 ∷ 45 ∷ 45 ∷ [])
  mask_shown m = (a.mark ∙ rw m refl, a.share ∙ rw m refl)

  pub share_shown : (n : ℕ) → mask_query d c ≡ Ok false → share_query d c ≡ Ok n
      → (field 14 1 c d ≡ 45 ∷ []) × (field 10 3 c d ≡ in_three n)
  share_shown n m s = (a.mark ∙ rw m refl, a.share ∙ rw (m, s) refl)

  pub notes_shown : field 16 2 c d
      ≡ in_two (total (λ g. bit (is_busy_told (generator_query d g) && is_on_told c (generator_query d g))) 256)
  notes_shown = a.notes

-- all sixteen channels, of all generators that one may ask for
pub sum_of-sixteen : NotesAddUp → (p id : ℕ) (l : List Event)
    → let d = (after Live (begin p id) l).device in
    total (λ i. read_two (field 16 2 (i + 1) d)) 16 ≡ total (λ g. bit (is_busy_told (generator_query d g))) 256
sum_of-sixteen a = a

-- a line's end is no character
pub no_end_within : Characters (10 ∷ []) → ⊥
no_end_within c = absurd (let h = c.0.0 in omega arith)

pub no_delete_within : Characters (127 ∷ []) → ⊥
no_delete_within c = absurd (let h = c.0.1 in omega arith)

pub nineteen_bytes : (bytes : List ℕ) → IsLine bytes → length bytes ≡ 19
nineteen_bytes bytes l = ap length l.ended ∙ length-append l.text _ ∙ (let e = l.eighteen in omega arith)

-- its text has characters alone, and behind it stands 0AH
pub line-characters : (bytes : List ℕ) (l : IsLine bytes) → Characters l.text
line-characters bytes l = l.characters

pub line-ended : (bytes : List ℕ) (l : IsLine bytes) → bytes ≡ l.text ++ 10 ∷ []
line-ended bytes l = l.ended

-- no control character: 31 is the last of them
pub no_control_within : Characters (31 ∷ []) → ⊥
no_control_within c = absurd (let h = c.0.0 in omega arith)

-- a line, and a field, is one of the page's
pub line_of_the-page : (n : ℕ) (text : List ℕ) → line_at n text ≡ take 19 (drop (19 * n) text)
line_of_the-page n text = refl

pub field_of_the-page : (a w c : ℕ) (d : Device) → field a w c d ≡ take w (drop a (line_at c (page_text d)))
field_of_the-page a w c d = refl

-- any values of bytes
pub any_values : (e : Entry) (l : List Entry) → e.value < 256 → Bytes l → Bytes (e ∷ l)
any_values e l h b = (h, b)

-- a record of FF bytes is one of bytes, and has its 17 lines
abbrev worst : Table
worst = record { count = 255; entries = replicate 16 (entry 255 255) }

pub any_bytes : OfBytes worst
any_bytes = record { sixteen = refl; values = go 16 }
  where
    go : (n : ℕ) → Bytes (replicate n (entry 255 255))
    go zero = tt
    go (suc n) = (omega arith, go n)

pub last_line_too : SeventeenLines → (d : Device) → OfBytes d.instrument.table → IsLine (line_at 16 (page_text d))
last_line_too a d o = (a d o).1 16 (omega arith)

pub bytes_in_all : SeventeenLines → (d : Device) → OfBytes d.instrument.table → length (page_text d) ≡ 323
bytes_in_all a d o = (a d o).0

pub ninety_nine : RightAligned → in_two 99 ≡ 57 ∷ 57 ∷ []
unfolding decimal
ninety_nine a = (a 99).0 (omega arith)

pub nine_hundred_ninety_nine : RightAligned → in_three 999 ≡ 57 ∷ 57 ∷ 57 ∷ []
unfolding decimal
nine_hundred_ninety_nine a = (a 999).1 (omega arith)

pub seven : RightAligned → in_three 7 ≡ 32 ∷ 32 ∷ 55 ∷ []
unfolding decimal
seven a = (a 7).1 (omega arith)

-- ---- a page

-- P 24. A MIP message: channels 1, 10, 3, 16 with values 2, 12, 12, 100; on channel 1 the pedal, and keys 60 and 62, of
-- which 60 goes up; a drum; on channel 3 a key that goes up
abbrev song : List Event
song =
    Byte 0xF0 ∷ Byte 0x7F ∷ Byte 0x7F ∷ Byte 0x0B ∷ Byte 0x01 ∷ Byte 0 ∷ Byte 2
    ∷ Byte 9 ∷ Byte 12 ∷ Byte 2 ∷ Byte 12 ∷ Byte 15 ∷ Byte 100 ∷ Byte 0xF7
    ∷ Byte 0xB0 ∷ Byte 64 ∷ Byte 127 ∷ Byte 0x90 ∷ Byte 60 ∷ Byte 64
    ∷ Byte 62 ∷ Byte 64 ∷ Byte 60 ∷ Byte 0 ∷ Byte 0x99 ∷ Byte 36 ∷ Byte 64
    ∷ Byte 0x92 ∷ Byte 48 ∷ Byte 64 ∷ Byte 48 ∷ Byte 0 ∷ []

-- held and sustained notes count, the releasing one of channel 3 does not; channel 16 is listed and masked; the others
-- are not listed
pub worked_page : page_text (after Live (begin 24 0) song).device ≡
    -- CH PR VAL SHR M NT
    67 ∷ 72 ∷ 32 ∷ 80 ∷ 82 ∷ 32 ∷ 86 ∷ 65 ∷ 76 ∷ 32 ∷ 83 ∷ 72 ∷ 82 ∷ 32 ∷ 77 ∷ 32 ∷ 78 ∷ 84 ∷ 10
    --  1  1   2   2 -  2
    ∷ 32 ∷ 49 ∷ 32 ∷ 32 ∷ 49 ∷ 32 ∷ 32 ∷ 32 ∷ 50 ∷ 32 ∷ 32 ∷ 32 ∷ 50 ∷ 32 ∷ 45 ∷ 32 ∷ 32 ∷ 50 ∷ 10
    --  2 -- --- --- M  0
    ∷ 32 ∷ 50 ∷ 32 ∷ 45 ∷ 45 ∷ 32 ∷ 45 ∷ 45 ∷ 45 ∷ 32 ∷ 45 ∷ 45 ∷ 45 ∷ 32 ∷ 77 ∷ 32 ∷ 32 ∷ 48 ∷ 10
    --  3  3  12   0 -  0
    ∷ 32 ∷ 51 ∷ 32 ∷ 32 ∷ 51 ∷ 32 ∷ 32 ∷ 49 ∷ 50 ∷ 32 ∷ 32 ∷ 32 ∷ 48 ∷ 32 ∷ 45 ∷ 32 ∷ 32 ∷ 48 ∷ 10
    --  4 -- --- --- M  0
    ∷ 32 ∷ 52 ∷ 32 ∷ 45 ∷ 45 ∷ 32 ∷ 45 ∷ 45 ∷ 45 ∷ 32 ∷ 45 ∷ 45 ∷ 45 ∷ 32 ∷ 77 ∷ 32 ∷ 32 ∷ 48 ∷ 10
    --  5 -- --- --- M  0
    ∷ 32 ∷ 53 ∷ 32 ∷ 45 ∷ 45 ∷ 32 ∷ 45 ∷ 45 ∷ 45 ∷ 32 ∷ 45 ∷ 45 ∷ 45 ∷ 32 ∷ 77 ∷ 32 ∷ 32 ∷ 48 ∷ 10
    --  6 -- --- --- M  0
    ∷ 32 ∷ 54 ∷ 32 ∷ 45 ∷ 45 ∷ 32 ∷ 45 ∷ 45 ∷ 45 ∷ 32 ∷ 45 ∷ 45 ∷ 45 ∷ 32 ∷ 77 ∷ 32 ∷ 32 ∷ 48 ∷ 10
    --  7 -- --- --- M  0
    ∷ 32 ∷ 55 ∷ 32 ∷ 45 ∷ 45 ∷ 32 ∷ 45 ∷ 45 ∷ 45 ∷ 32 ∷ 45 ∷ 45 ∷ 45 ∷ 32 ∷ 77 ∷ 32 ∷ 32 ∷ 48 ∷ 10
    --  8 -- --- --- M  0
    ∷ 32 ∷ 56 ∷ 32 ∷ 45 ∷ 45 ∷ 32 ∷ 45 ∷ 45 ∷ 45 ∷ 32 ∷ 45 ∷ 45 ∷ 45 ∷ 32 ∷ 77 ∷ 32 ∷ 32 ∷ 48 ∷ 10
    --  9 -- --- --- M  0
    ∷ 32 ∷ 57 ∷ 32 ∷ 45 ∷ 45 ∷ 32 ∷ 45 ∷ 45 ∷ 45 ∷ 32 ∷ 45 ∷ 45 ∷ 45 ∷ 32 ∷ 77 ∷ 32 ∷ 32 ∷ 48 ∷ 10
    -- 10  2  12  10 -  1
    ∷ 49 ∷ 48 ∷ 32 ∷ 32 ∷ 50 ∷ 32 ∷ 32 ∷ 49 ∷ 50 ∷ 32 ∷ 32 ∷ 49 ∷ 48 ∷ 32 ∷ 45 ∷ 32 ∷ 32 ∷ 49 ∷ 10
    -- 11 -- --- --- M  0
    ∷ 49 ∷ 49 ∷ 32 ∷ 45 ∷ 45 ∷ 32 ∷ 45 ∷ 45 ∷ 45 ∷ 32 ∷ 45 ∷ 45 ∷ 45 ∷ 32 ∷ 77 ∷ 32 ∷ 32 ∷ 48 ∷ 10
    -- 12 -- --- --- M  0
    ∷ 49 ∷ 50 ∷ 32 ∷ 45 ∷ 45 ∷ 32 ∷ 45 ∷ 45 ∷ 45 ∷ 32 ∷ 45 ∷ 45 ∷ 45 ∷ 32 ∷ 77 ∷ 32 ∷ 32 ∷ 48 ∷ 10
    -- 13 -- --- --- M  0
    ∷ 49 ∷ 51 ∷ 32 ∷ 45 ∷ 45 ∷ 32 ∷ 45 ∷ 45 ∷ 45 ∷ 32 ∷ 45 ∷ 45 ∷ 45 ∷ 32 ∷ 77 ∷ 32 ∷ 32 ∷ 48 ∷ 10
    -- 14 -- --- --- M  0
    ∷ 49 ∷ 52 ∷ 32 ∷ 45 ∷ 45 ∷ 32 ∷ 45 ∷ 45 ∷ 45 ∷ 32 ∷ 45 ∷ 45 ∷ 45 ∷ 32 ∷ 77 ∷ 32 ∷ 32 ∷ 48 ∷ 10
    -- 15 -- --- --- M  0
    ∷ 49 ∷ 53 ∷ 32 ∷ 45 ∷ 45 ∷ 32 ∷ 45 ∷ 45 ∷ 45 ∷ 32 ∷ 45 ∷ 45 ∷ 45 ∷ 32 ∷ 77 ∷ 32 ∷ 32 ∷ 48 ∷ 10
    -- 16  4 100 --- M  0
    ∷ 49 ∷ 54 ∷ 32 ∷ 32 ∷ 52 ∷ 32 ∷ 49 ∷ 48 ∷ 48 ∷ 32 ∷ 45 ∷ 45 ∷ 45 ∷ 32 ∷ 77 ∷ 32 ∷ 32 ∷ 48 ∷ 10 ∷ []
unfolding up_to total filter_by first_of padded begun stored one_data_byte completed data_byte opened ended status_byte
    split decode table_of start_table listed shares_from lookup share_of is_mip is_system_on kind_of pairs faulty judged
    group_of excludes of-channel.fresh of-controllers.data_entry of-controllers.stored of-controllers.controlled
    ages_of newest assigned silent changes state_after changed is_among leaves silenced lowest_idle wanted oldest
    busy_count over_share steal_from victim cleared choice note_on fresh channel_at replaced channel_of with_channel
    is_rhythm masked notes_after play_control play_note_off play_note_on played started new_table mip_taken exclusive
    heard
    byte_taken taken report_taken reported after in_two in_three standing_from head line row rows_to page_of page_text
worked_page = refl

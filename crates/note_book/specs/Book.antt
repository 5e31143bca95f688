-- The note book (section 9 of docs/RULES.md). R9.1: it is kept from messages, reports and answers; nothing that it is
-- made of looks at the device's record.
use Rattle.std.specs.Prelude.{ℕ, ◌+◌, Bool, true, false, not, ◌&&◌, ◌||◌, List, map, eqb, leb, drop, if◌then◌else◌, Option}
use Rattle.loops.specs.Cases.{differ, bit}
use Rattle.loops.specs.Passes.{total}
use Rattle.splitter.specs.declared.Parser.{Parser}
use Rattle.splitter.specs.declared.Completed.{Completed}
use Rattle.splitter.specs.declared.Completed.TheVariants as completed
use Rattle.splitter.specs.Split.{body, split}
use Rattle.message.specs.declared.Message.{Message}
use Rattle.message.specs.declared.Message.TheVariants.{NoteOn, NoteOff, Control, Program, Bend, Other}
use Rattle.message.specs.Message.{decode}
use Rattle.table.specs.declared.Entry.{Entry}
use Rattle.table.specs.Table.{entry, start_order}
use Rattle.shares.specs.Shares.{shares_from, lookup, is_masked}
use Rattle.channels.specs.Channel.{rhythm_by}
use Rattle.sysex.specs.declared.Kind.{Kind}
use Rattle.sysex.specs.declared.Kind.TheVariants as kind
use Rattle.sysex.specs.SysEx.{kind_of}
use Rattle.mip.specs.Mip.{pairs}
use Rattle.drums.specs.Drums.{excludes}
use Rattle.allocation.specs.declared.Was.{Was}
use Rattle.playing.specs.declared.Answer.{Answer}
use Rattle.playing.specs.declared.Answer.TheVariants.{Nothing, Done, Note, NoNote, Number}
use Rattle.controllers.specs.Controllers.{lifts_pedal, silences_all, ends_all}
use Rattle.events.specs.declared.Event.{Event}
use Rattle.events.specs.declared.Event.TheVariants.{Byte, Report}

-- ---- answers

-- f of what an answer *note* says: channel, key, generator and what that was; x for every other answer
abbrev pub if_note : {A : Type 0} → Answer → (ℕ → ℕ → ℕ → Was → A) → A → A
if_note (Note c k g w) f x = f c k g w
if_note Nothing f x = x
if_note Done f x = x
if_note (NoNote n c k) f x = x
if_note (Number n) f x = x

abbrev pub is_done : Answer → Bool
is_done Done = true
is_done Nothing = false
is_done (Note c k g w) = false
is_done (NoNote n c k) = false
is_done (Number n) = false

-- ---- the book

-- R9.2: a note, or none
pub data Slot : Type 0 where
  empty : Slot
  note : (on_pedal : Bool) (channel key : ℕ) → Slot

-- R9.3: P and the own ID, the slot of each generator, the hold of each channel, the table, and of channel 11 the MSB of
-- its bank and whether it is a rhythm channel
pub record Book : Type 0 where
  pub polyphony : ℕ
  pub id : ℕ
  pub notes : ℕ → Slot
  pub holds : ℕ → ℕ
  pub table : List Entry
  pub bank : ℕ
  pub rhythm : Bool

abbrev pub with_notes : Book → (ℕ → Slot) → Book
with_notes b n =
    record {
      polyphony = b.polyphony;
      id = b.id;
      notes = n;
      holds = b.holds;
      table = b.table;
      bank = b.bank;
      rhythm = b.rhythm;
    }

abbrev pub with_holds : Book → (ℕ → ℕ) → Book
with_holds b h =
    record {
      polyphony = b.polyphony;
      id = b.id;
      notes = b.notes;
      holds = h;
      table = b.table;
      bank = b.bank;
      rhythm = b.rhythm;
    }

abbrev pub with_table : Book → List Entry → Book
with_table b t =
    record {
      polyphony = b.polyphony;
      id = b.id;
      notes = b.notes;
      holds = b.holds;
      table = t;
      bank = b.bank;
      rhythm = b.rhythm;
    }

abbrev pub with_bank : Book → ℕ → Book
with_bank b v =
    record {
      polyphony = b.polyphony;
      id = b.id;
      notes = b.notes;
      holds = b.holds;
      table = b.table;
      bank = v;
      rhythm = b.rhythm;
    }

abbrev pub with_rhythm : Book → Bool → Book
with_rhythm b r =
    record {
      polyphony = b.polyphony;
      id = b.id;
      notes = b.notes;
      holds = b.holds;
      table = b.table;
      bank = b.bank;
      rhythm = r;
    }

-- R9.4: a fresh book
abbrev pub fresh_book : ℕ → ℕ → Book
fresh_book p id =
    record {
      polyphony = p;
      id = id;
      notes = λ g. empty;
      holds = λ c. 0;
      table = map (λ (c : ℕ). entry c p) start_order;
      bank = 121;
      rhythm = false;
    }

-- R9.3: the book of a start, of P 1 and own ID 0 where that was refused
abbrev pub start_book : ℕ → ℕ → Answer → Book
start_book p id a = if is_done a then fresh_book p id else fresh_book 1 0

-- R9.3: masks and shares by the table and P
abbrev pub share_of : Book → ℕ → Option ℕ
share_of b c = lookup c (shares_from b.polyphony 0 b.table)

-- R5.12, R6.3: the rhythm channels, and a pedal that is down
abbrev pub is_rhythm : Book → ℕ → Bool
is_rhythm b c = eqb c 10 || eqb c 11 && b.rhythm

abbrev pub pedal_down : Book → ℕ → Bool
pedal_down b c = leb 64 (b.holds c)

-- ---- notes

abbrev pub is_note : Slot → Bool
is_note empty = false
is_note (note p c k) = true

abbrev pub is_down : Slot → Bool
is_down empty = false
is_down (note p c k) = not p

abbrev pub is_on_pedal : Slot → Bool
is_on_pedal empty = false
is_on_pedal (note p c k) = p

abbrev pub is_of : ℕ → Slot → Bool
is_of c empty = false
is_of c (note p d k) = eqb d c

abbrev pub is_of_key : ℕ → ℕ → Slot → Bool
is_of_key c k empty = false
is_of_key c k (note p d j) = eqb d c && eqb j k

-- R9.6: what a note-on of channel c and key k ends: the notes of its key, on a rhythm channel those of its group too
abbrev pub is_ended : Bool → ℕ → ℕ → Slot → Bool
is_ended rhythm c k empty = false
is_ended rhythm c k (note p d j) = eqb d c && (eqb j k || rhythm && excludes k j)

-- the notes that pass leave, or go on the pedal
abbrev pub freed : (Slot → Bool) → Bool → Slot → Slot
freed f pedal empty = empty
freed f pedal (note p c k) = if f (note p c k) then if pedal then note true c k else empty else note p c k

abbrev pub all_freed : (Slot → Bool) → Bool → Book → Book
all_freed f pedal b = with_notes b (λ g. freed f pedal (b.notes g))

abbrev pub put : (ℕ → Slot) → ℕ → Slot → ℕ → Slot
put n g x h = if eqb h g then x else n h

-- ---- what the book hears

-- a complete channel message, an accepted table or reset, a report; or nothing that it keeps
pub data Heard : Type 0 where
  nothing : Heard
  message : Message → Heard
  new_table : List Entry → Heard
  reset : Heard
  report : (generator : ℕ) → Heard

abbrev pub exclusive_heard : List ℕ → Kind → Heard
exclusive_heard l kind.Mip = new_table (pairs (drop 4 l))
exclusive_heard l kind.SystemOn = reset
exclusive_heard l kind.Other = nothing

-- what a byte completed; p is the splitter that it found. R9.5: a MIP message or a System On is accepted where it is
-- for us and its F7 is answered done
abbrev pub completed_heard : ℕ → Parser → Completed → Answer → Heard
completed_heard id p completed.Nothing a = nothing
completed_heard id p completed.Stray a = nothing
completed_heard id p completed.Cut a = nothing
completed_heard id p (completed.Message s x y) a = message (decode s x y)
completed_heard id p completed.SysEx a = if is_done a then exclusive_heard (body p) (kind_of id (body p)) else nothing

-- R9.1: bytes are split as the device splits them, and a message is heard at its last byte
abbrev pub event_heard : Book → Parser → Event → Answer → Heard
event_heard b p (Byte x) a = completed_heard b.id p (split p x).completed a
event_heard b p (Report g) a = report g

abbrev pub splitter_after : Parser → Event → Parser
splitter_after p (Byte x) = (split p x).parser
splitter_after p (Report g) = p

-- ---- what it makes of that and of the answer

-- the notes besides those that a note-on of channel c and key k ends
abbrev pub remaining : Book → ℕ → ℕ → ℕ → Slot
remaining b c k g = freed (is_ended (is_rhythm b c) c k) false (b.notes g)

-- R9.6, R9.8: answered note with generator g; R9.9: answered otherwise
abbrev pub keep_note_on : Book → ℕ → ℕ → Answer → Book
keep_note_on b c k a = if_note a (λ x y g w. with_notes b (put (remaining b c k) g (note false c k))) b

-- R9.10: note-off
abbrev pub keep_note_off : Book → ℕ → ℕ → Book
keep_note_off b c k = if is_rhythm b c then b else all_freed (λ s. is_down s && is_of_key c k s) (pedal_down b c) b

-- R9.11, R9.12: the hold after a controller
abbrev pub hold_after : ℕ → ℕ → ℕ → ℕ
hold_after n v h = if eqb n 64 then v else if eqb n 121 && eqb v 0 then 0 else h

-- R9.11, R9.12, R9.13: the notes after a controller
abbrev pub notes_after : Book → ℕ → ℕ → ℕ → Book
notes_after b c n v =
    if lifts_pedal n v then all_freed (λ s. is_on_pedal s && is_of c s) false b else
    if silences_all n v then all_freed (is_of c) false b else
    if ends_all n v then all_freed (λ s. is_down s && is_of c s) (pedal_down b c && not (is_rhythm b c)) b else
    b

-- R9.18: the bank of channel 11 after a controller of channel c
abbrev pub bank_after : ℕ → ℕ → ℕ → ℕ → ℕ
bank_after c n v x = if eqb n 0 && eqb c 11 then v else x

abbrev pub keep_control : Book → ℕ → ℕ → ℕ → Book
keep_control b c n v =
    with_bank (with_holds (notes_after b c n v) (λ d. if eqb d c then hold_after n v (b.holds d) else b.holds d))
    (bank_after c n v b.bank)

-- R9.19: the kind of channel 11; where it is another one its notes leave
abbrev pub kind_kept : Book → Bool → Book
kind_kept b r = if differ r b.rhythm then with_rhythm (all_freed (is_of 11) false b) r else b

abbrev pub keep_program : Book → ℕ → Book
keep_program b c = if eqb c 11 then kind_kept b (rhythm_by b.bank b.rhythm) else b

unfoldable pub keep_message : Book → Message → Answer → Book
keep_message b (NoteOn c k) a = keep_note_on b c k a
keep_message b (NoteOff c k) a = keep_note_off b c k
keep_message b (Control c n v) a = keep_control b c n v
keep_message b (Program c n) a = keep_program b c
keep_message b (Bend c msb lsb) a = b
keep_message b Other a = b

-- R9.15: an accepted MIP message
abbrev pub is_of_masked : Book → Slot → Bool
is_of_masked b empty = false
is_of_masked b (note p c k) = is_masked (share_of b c)

abbrev pub keep_table : Book → List Entry → Book
keep_table b t = all_freed (is_of_masked (with_table b t)) false (with_table b t)

-- R9.14: a report
abbrev pub keep_report : Book → ℕ → Answer → Book
keep_report b g a = if is_done a then with_notes b (put b.notes g empty) else b

-- R9.16: an accepted System On; R9.17: anything else
unfoldable pub keep : Book → Heard → Answer → Book
keep b nothing a = b
keep b (message m) a = keep_message b m a
keep b (new_table t) a = keep_table b t
keep b reset a = fresh_book b.polyphony b.id
keep b (report g) a = keep_report b g a

-- ---- counts

-- the notes of channel c on generators 0 to p - 1
abbrev pub notes_on : ℕ → ℕ → (ℕ → Slot) → ℕ
notes_on p c n = total (λ g. bit (is_of c (n g))) p

-- R10.4: a channel's count at its note-on
abbrev pub count_at : Book → ℕ → ℕ → ℕ
count_at b c k = notes_on b.polyphony c (remaining b c k) + 1

-- The one claim about every list of bytes and reports, which device and book take side by side: R10.1 to R10.9.
use Rattle.std.specs.Prelude.{ℕ, ◌≤◌, ◌<◌, ◌≡◌, Bool, true, false, not, ◌&&◌, ◌||◌, if◌then◌else◌}
use Rattle.std.specs.Prelude.{List, [], ◌∷◌, ◌++◌, eqb, Option, Some, None}
use Rattle.splitter.specs.declared.Parser.{Parser}
use Rattle.splitter.specs.Split.{quiet}
use Rattle.message.specs.declared.Message.TheVariants.{NoteOn, NoteOff, Control, Program, Bend, Other}
use Rattle.shares.specs.Shares.{is_masked}
use Rattle.generators.specs.Generators.{Generator, at, is_idle, is_held, is_sustained}
use Rattle.allocation.specs.Allocation.{is_stolen}
use Rattle.instrument.specs.declared.Instrument.{Instrument}
use Rattle.playing.specs.declared.Answer.{Answer}
use Rattle.device.specs.declared.Device.{Device}
use Rattle.device.specs.Device.{started}
use Rattle.events.specs.declared.Event.{Event}
use Rattle.events.specs.Events.{taken}
use Rattle.note_book.specs.Book.{Slot, empty, note, Book, if_note, start_book, share_of, is_rhythm}
use Rattle.note_book.specs.Book.{is_note, is_of, is_ended, remaining, notes_on, count_at}
use Rattle.note_book.specs.Book.{Heard, nothing, message, new_table, reset, report}
use Rattle.note_book.specs.Book.{event_heard, splitter_after, keep}

-- ---- what is claimed at a note-on of channel c and key k with answer a

-- R10.6: at most the share of an unmasked channel; a masked one has no claim
abbrev pub IsWithin : Option ℕ → ℕ → Type 0
IsWithin None n = ⊥
IsWithin (Some u) n = n ≤ u

-- R9.7: the note that leaves as stolen
abbrev pub stolen_note : Book → ℕ → ℕ → Answer → Slot
stolen_note b c k a = if_note a (λ x y g w. remaining b c k g) empty

-- R10.9: a note is stolen, or one of an unmasked channel is answered otherwise than by note, by done or none as well
-- as by a number
abbrev pub is_loss : Book → ℕ → ℕ → Answer → Bool
is_loss b c k a = if_note a (λ x y g w. is_stolen w || is_note (stolen_note b c k a)) (not (is_masked (share_of b c)))

-- R10.9: every generator has a note, and none one that the new note ends
abbrev pub IsFull : Book → ℕ → ℕ → Type 0
IsFull b c k =
    (g : ℕ) → g < b.polyphony → (is_note (b.notes g) ≡ true) × (is_ended (is_rhythm b c) c k (b.notes g) ≡ false)

-- R10.7: answered note, with that channel and key
abbrev pub is_served : ℕ → ℕ → Answer → Bool
is_served c k a = if_note a (λ x y g w. eqb x c && eqb y k) false

abbrev pub Fair : Book → Answer → ℕ → ℕ → Type 0
Fair b a c k = is_loss b c k a ≡ true → IsFull b c k

-- R10.6: channel c asks for no more than its share; R10.7, R10.8: it is served, and none of its notes is stolen
abbrev pub Keeps : ℕ → Book → Answer → ℕ → ℕ → Type 0
Keeps c b a d k = d ≡ c → IsWithin (share_of b c) (count_at b c k)

abbrev pub Safe : ℕ → Book → Answer → ℕ → ℕ → Type 0
Safe c b a d k = (d ≡ c → is_served d k a ≡ true) × (is_of c (stolen_note b d k a) ≡ false)

-- F of channel and key, where a note-on above 0 is heard
abbrev pub AtNoteOn : (ℕ → ℕ → Type 0) → Heard → Type 0
AtNoteOn F nothing = Unit {0}
AtNoteOn F (message (NoteOn c k)) = F c k
AtNoteOn F (message (NoteOff c k)) = Unit {0}
AtNoteOn F (message (Control c n v)) = Unit {0}
AtNoteOn F (message (Program c n)) = Unit {0}
AtNoteOn F (message (Bend c msb lsb)) = Unit {0}
AtNoteOn F (message Other) = Unit {0}
AtNoteOn F (new_table t) = Unit {0}
AtNoteOn F reset = Unit {0}
AtNoteOn F (report g) = Unit {0}

-- R10.5: what a run may have in it
abbrev pub IsInRun : Heard → Type 0
IsInRun nothing = Unit {0}
IsInRun (message m) = Unit {0}
IsInRun (new_table t) = ⊥
IsInRun reset = ⊥
IsInRun (report g) = Unit {0}

-- ---- the claim about a list

-- device and book side by side, event by event; what the book hears may rest on the book and on the answer, never on
-- the device
pub record System : Type 1 where
  pub State : Type 0
  pub Event : Type 0
  pub instrument : State → Instrument
  pub book : State → Book
  pub next : State → Event → State
  pub answer : State → Event → Answer
  pub hears : State → Event → Heard

-- R10.2: the note that a generator is
abbrev pub slot_of : Generator → Slot
slot_of x =
    if is_held x then note false x.channel x.key else
    if is_sustained x then note true x.channel x.key else
    empty

module _ (S : System) where
  unfoldable pub after : S.State → List S.Event → S.State
  after s [] = s
  after s (e ∷ l) = after (S.next s e) l

  -- R10.2: each generator is in the book as it is in the record; R10.3: from P on all are idle
  pub record IsExact (s : S.State) : Type 0 where
    pub notes : (g : ℕ) → (S.book s).notes g ≡ slot_of (at (S.instrument s).generators g)
    pub beyond : (g : ℕ) → (S.book s).polyphony ≤ g → is_idle (at (S.instrument s).generators g) ≡ true

  -- at the start and after every event
  abbrev pub Always : S.State → List S.Event → Type 0
  Always s [] = IsExact s
  Always s (e ∷ l) = IsExact s × Always (S.next s e) l

  -- F of the book before and of the answer, at each note-on above 0 in the list
  abbrev pub Each : (Book → Answer → ℕ → ℕ → Type 0) → S.State → List S.Event → Type 0
  Each F s [] = Unit {0}
  Each F s (e ∷ l) = AtNoteOn (F (S.book s) (S.answer s e)) (S.hears s e) × Each F (S.next s e) l

  abbrev pub IsRun : S.State → List S.Event → Type 0
  IsRun s [] = Unit {0}
  IsRun s (e ∷ l) = IsInRun (S.hears s e) × IsRun (S.next s e) l

  -- R10.6: channel c stays within its share in a run from s
  abbrev pub StaysWithin : ℕ → S.State → List S.Event → Type 0
  StaysWithin c s run =
      IsWithin (share_of (S.book s) c) (notes_on (S.book s).polyphony c (S.book s).notes) × Each (Keeps c) s run

  -- R10.2, R10.9, and R10.7 with R10.8 in every run of the list
  pub record Demand3 (s : S.State) (l : List S.Event) : Type 0 where
    pub exact : Always s l
    pub fair : Each Fair s l
    pub shared : (pre run post : List S.Event) → l ≡ pre ++ (run ++ post) → IsRun (after s pre) run
        → (c : ℕ) → StaysWithin c (after s pre) run → Each (Safe c) (after s pre) run

-- ---- one sender: bytes and reports

-- the book comes with a splitter of its own
pub record Both : Type 0 where
  pub device : Device
  pub splitter : Parser
  pub book : Book

abbrev pub Live : System
Live = record {
  State = Both;
  Event = Event;
  instrument = λ s. s.device.instrument;
  book = λ s. s.book;
  next = λ s e.
      let a = (taken s.device e).answer in
      record {
        device = (taken s.device e).device;
        splitter = splitter_after s.splitter e;
        book = keep s.book (event_heard s.book s.splitter e a) a;
      };
  answer = λ s e. (taken s.device e).answer;
  hears = λ s e. event_heard s.book s.splitter e (taken s.device e).answer;
}

-- R10.1: before the list, whatever was asked for at the start
abbrev pub begin : ℕ → ℕ → Both
begin p id = record { device = (started p id).device; splitter = quiet; book = start_book p id (started p id).answer }

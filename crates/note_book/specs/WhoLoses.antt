-- Who loses a note, told by the note book and the answers alone: R10.11, R10.12.
use Rattle.std.specs.Prelude.{ℕ, ◌+◌, ◌≡◌, false, true, ◌&&◌, List, [], ◌∷◌, eqb}
use Rattle.std.proofs.Math.Option.{Option, some, none}
use Rattle.loops.specs.Cases.{bit}
use Rattle.loops.specs.Passes.{first_of}
use Rattle.refusals.specs.declared.Refusal.TheVariants as refusal
use Rattle.shares.specs.Shares.{shares_from, is_masked}
use Rattle.stealing.specs.Stealing.{otherwise, over_share}
use Rattle.allocation.specs.declared.Was.TheVariants.{Stolen}
use Rattle.playing.specs.declared.Answer.{Answer}
use Rattle.playing.specs.declared.Answer.TheVariants.{Note, NoNote}
use Rattle.note_book.specs.Book.{Slot, Book, share_of, is_down, is_on_pedal, is_of, notes_on}
use Rattle.note_book.specs.Claim.{IsFull, stolen_note, AtNoteOn, System, Each}
use Rattle.note_book.specs.Age.{named}

-- ---- step 5 on paper, at a note-on of channel c

-- R5.7: the notes of channel d among the first p, and the new one if it is of that channel
abbrev pub with_new : ℕ → (ℕ → Slot) → ℕ → ℕ → ℕ
with_new p n c d = notes_on p d n + bit (eqb d c)

-- R5.8: of the unmasked channels with more than their share the one of lowest priority
abbrev pub payer : Book → ℕ → Option ℕ
payer b c = over_share (with_new b.polyphony b.notes c) (shares_from b.polyphony 0 b.table)

-- R5.9: of the notes of channel d the oldest on the pedal, and the oldest that is down where none is on the pedal;
-- `order` has the generators, the oldest first
abbrev pub first_to_go : (ℕ → Slot) → List ℕ → ℕ → Option ℕ
first_to_go n order d =
    otherwise (first_of (λ g. is_on_pedal (n g) && is_of d (n g)) order)
    (first_of (λ g. is_down (n g) && is_of d (n g)) order)

abbrev pub paid_by : (ℕ → Slot) → List ℕ → Option ℕ → Option ℕ
paid_by n order none = none
paid_by n order (some d) = first_to_go n order d

-- the generator of the note that goes, if one does
abbrev pub goes : Book → List ℕ → ℕ → Option ℕ
goes b order c = paid_by b.notes order (payer b c)

-- R5.9, R5.10: the answer then: stolen or, where no note goes, number 11
abbrev pub loss_answer : ℕ → ℕ → Option ℕ → Answer
loss_answer c k (some g) = Note c k g Stolen
loss_answer c k none = NoNote refusal.NothingToSteal c k

-- ---- what is claimed at a note-on of channel c and key k with answer a

-- R10.11: wherever a note is lost the answer is the one on paper: number 10 on a masked channel, and on another where
-- every generator has a note and the new one ends none
pub record Foretold (order : List ℕ) (b : Book) (a : Answer) (c k : ℕ) : Type 0 where
  pub masked : is_masked (share_of b c) ≡ true → a ≡ NoNote refusal.Masked c k
  pub full : is_masked (share_of b c) ≡ false → IsFull b c k → a ≡ loss_answer c k (goes b order c)

-- R10.12: a note that is down leaves as stolen only where its channel, d, has none on the pedal
abbrev pub PedalFirst : Book → Answer → ℕ → ℕ → Type 0
PedalFirst b a c k =
    (d : ℕ) → is_down (stolen_note b c k a) && is_of d (stolen_note b c k a) ≡ true
    → (g : ℕ) → is_on_pedal (b.notes g) && is_of d (b.notes g) ≡ false

-- ---- the claim about a list

module _ (S : System) where
  -- at each note-on above 0; `order` has the generators that note answers named so far, each at its last one
  abbrev pub EachForetold : List ℕ → S.State → List S.Event → Type 0
  EachForetold order s [] = Unit {0}
  EachForetold order s (e ∷ l) =
      AtNoteOn (Foretold order (S.book s) (S.answer s e)) (S.hears s e)
      × EachForetold (named order (S.answer s e)) (S.next s e) l

  pub record WhoLoses (s : S.State) (l : List S.Event) : Type 0 where
    pub foretold : EachForetold [] s l
    pub pedal_first : Each S PedalFirst s l

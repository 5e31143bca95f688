-- Demand 3 bites. First its words, for any book and answer: what keeps within a share, what ends a run, what is
-- served, robbed and lost is no less than the rules say; a claim emptied behind its name would not give these facts.
-- Then the words of who loses, the end of any list, and the rhythm channels. Short lists in which the theorems alone,
-- not the device, say what becomes of a note stand in crate `witnesses`, so that they are computed once and not for
-- each wrong answer.
-- Assumes nothing.
use Rattle.std.specs.Prelude.{Some}
use mathlib.Core.Path.{◌≡◌, refl, sym, ap, ◌∙◌}
use mathlib.Core.Bool.{Bool, true, false, not, ◌&&◌, ◌||◌, false≢true}
use mathlib.Core.List.{List, [], ◌∷◌, ◌++◌}
use mathlib.Core.Option.{some, none}
use Prim.Native.Nat.{ℕ, ◌≤◌, ◌<◌}
use borrow.Author.Tests.{eqb-true}
use lib.Dec.{eqb}
use Rattle.loops.specs.Passes.{total, first_of}
use Rattle.drums.specs.Drums.{group_of, excludes}
use Rattle.table.specs.declared.Entry.{Entry}
use Rattle.refusals.specs.declared.Refusal.TheVariants as refusal
use Rattle.shares.specs.Shares.{is_masked}
use Rattle.generators.specs.Generators.{at, is_idle}
use Rattle.allocation.specs.declared.Was.{Was}
use Rattle.allocation.specs.declared.Was.TheVariants.{Stolen}
use Rattle.allocation.specs.Allocation.{is_stolen}
use Rattle.instrument.specs.Instrument as of-instrument
use Rattle.playing.specs.declared.Answer.{Answer}
use Rattle.playing.specs.declared.Answer.TheVariants.{Nothing, Done, Note, NoNote, Number}
use Rattle.events.specs.declared.Event.{Event}
use Rattle.note_book.specs.Book.{Slot, note, Book, is_note, is_down, is_on_pedal, is_of, is_ended, remaining}
use Rattle.note_book.specs.Book.{count_at, Heard, nothing, message, new_table, reset, report}
use Rattle.note_book.specs.Book as of-book
use Rattle.note_book.specs.Claim.{IsWithin, is_loss, is_served, Fair, Safe, IsInRun, System, after}
use Rattle.note_book.specs.Claim.{AtNoteOn, IsExact, Always, Each, IsRun, StaysWithin, Demand3, Live, begin}
use Rattle.note_book.specs.Age.{named, by_answers}
use Rattle.note_book.specs.WhoLoses.{first_to_go, goes, loss_answer, Foretold, PedalFirst, EachForetold, WhoLoses}
use Rattle.note_book.specs.Rhythm.{SameRhythm}
use Rattle.note_book.proofs.Demand3.{demand_3}

-- ---- the words, whatever the device

-- all of the share may be used
pub whole-share : (u n : ℕ) → n ≤ u → IsWithin (Some u) n
whole-share u n h = h

-- an accepted MIP message and an accepted reset end a run, and nothing else does
pub in_run : (h : Heard) → ((t : List Entry) → h ≡ new_table t → ⊥) → (h ≡ reset → ⊥) → IsInRun h
in_run nothing t r = tt
in_run (message m) t r = tt
in_run (new_table x) t r = absurd (t x refl)
in_run reset t r = absurd (r refl)
in_run (report g) t r = tt

-- the count at a note-on leaves out what the new note ends: of a rhythm channel 11 its open hi_hat, at the closed one
pub hi_hat_counted_once : (b : Book) → b.polyphony ≡ 1 → b.rhythm ≡ true → b.notes 0 ≡ note false 11 46
    → count_at b 11 42 ≡ 1
unfolding total group_of excludes
hi_hat_counted_once b p r n = rw (p, n, r)

-- a run is any part of the list, with what came before it
pub run_anywhere : (S : System) (s : S.State) (l : List S.Event) → Demand3 S s l
    → (pre run post : List S.Event) → l ≡ pre ++ (run ++ post) → IsRun S (after S s pre) run
    → (c : ℕ) → StaysWithin S c (after S s pre) run → Each S (Safe c) (after S s pre) run
run_anywhere S s l d = d.shared

-- who is served is answered note, with channel and key
pub served_note : (b : Book) (c k : ℕ) (a : Answer) → Safe c b a c k → (g : ℕ) × ((w : Was) × (a ≡ Note c k g w))
served_note b c k a s = go a (s.0 refl)
  where
    same : (x y g : ℕ) (w : Was) (p : Bool) → eqb x c ≡ p → (q : Bool) → eqb y k ≡ q
        → p && q ≡ true → (h : ℕ) × ((v : Was) × (Note x y g w ≡ Note c k h v))
    same x y g w true p true q e = (g, (w, rw (eqb-true x c p, eqb-true y k q)))
    same x y g w true p false q e = absurd (false≢true e)
    same x y g w false p q r e = absurd (false≢true e)

    go : (a : Answer) → is_served c k a ≡ true → (g : ℕ) × ((w : Was) × (a ≡ Note c k g w))
    go (Note x y g w) e = same x y g w (eqb x c) refl (eqb y k) refl e
    go Nothing e = absurd (false≢true e)
    go Done e = absurd (false≢true e)
    go (NoNote n x y) e = absurd (false≢true e)
    go (Number n) e = absurd (false≢true e)

-- where a note of channel c still stands, no other may be put: channel c would be robbed
pub robbed_unsafe : (b : Book) (c d k g : ℕ) (w : Was)
    → is_of c (remaining b d k g) ≡ true → Safe c b (Note d k g w) d k → ⊥
robbed_unsafe b c d k g w e s = false≢true (sym s.1 ∙ e)

-- a loss is fair only where every generator had a note, and none that the new one ends
pub fair-full : (b : Book) (a : Answer) (c k : ℕ) → Fair b a c k → is_loss b c k a ≡ true → (g : ℕ) → g < b.polyphony
    → (is_note (b.notes g) ≡ true) × (is_ended (of-book.is_rhythm b c) c k (b.notes g) ≡ false)
fair-full b a c k f = f

-- the losses: "answers stolen"
pub stolen_lost : (b : Book) (c k x y g : ℕ) → is_loss b c k (Note x y g Stolen) ≡ true
stolen_lost b c k x y g = refl

-- "makes a note leave as stolen", whatever the answer calls it
pub leaving_lost : (b : Book) (c k x y g : ℕ) (w : Was)
    → is_note (remaining b c k g) ≡ true → is_loss b c k (Note x y g w) ≡ true
leaving_lost b c k x y g w e = go (is_stolen w) e
  where
    go : (p : Bool) → is_note (remaining b c k g) ≡ true → p || is_note (remaining b c k g) ≡ true
    go true e = refl
    go false e = e

-- on an unmasked channel every answer but note
pub turned_lost : (b : Book) (c k : ℕ) (a : Answer) → is_masked (of-book.share_of b c) ≡ false
    → ((x y g : ℕ) (w : Was) → a ≡ Note x y g w → ⊥) → is_loss b c k a ≡ true
turned_lost b c k (Note x y g w) u n = absurd (n x y g w refl)
turned_lost b c k Nothing u n = ap not u
turned_lost b c k Done u n = ap not u
turned_lost b c k (NoNote m x y) u n = ap not u
turned_lost b c k (Number m) u n = ap not u

-- where nothing is lost on an unmasked channel, the answer is note, and not stolen
abbrev pub IsGiven : Answer → Type 0
IsGiven a = (x : ℕ) × ((y : ℕ) × ((g : ℕ) × ((w : Was) × ((a ≡ Note x y g w) × (is_stolen w ≡ false)))))

pub not_lost : (b : Book) (c k : ℕ) (a : Answer)
    → is_masked (of-book.share_of b c) ≡ false → is_loss b c k a ≡ false → IsGiven a
not_lost b c k (Note x y g w) u e = (x, (y, (g, (w, (refl, go (is_stolen w) e)))))
  where
    go : (p : Bool) → p || is_note (remaining b c k g) ≡ false → p ≡ false
    go true e = e
    go false e = refl
not_lost b c k Nothing u e = absurd (false≢true (sym e ∙ ap not u))
not_lost b c k Done u e = absurd (false≢true (sym e ∙ ap not u))
not_lost b c k (NoNote n x y) u e = absurd (false≢true (sym e ∙ ap not u))
not_lost b c k (Number n) u e = absurd (false≢true (sym e ∙ ap not u))

-- ---- who loses: the words, whatever the device

-- wherever a note is lost the answer is the one on paper, whatever the channel and the book
pub answer-foretold : (order : List ℕ) (b : Book) (a : Answer) (c k : ℕ) → Foretold order b a c k
    → is_masked (of-book.share_of b c) ≡ false → ((g : ℕ) → g < b.polyphony
    → (is_note (b.notes g) ≡ true) × (is_ended (of-book.is_rhythm b c) c k (b.notes g) ≡ false))
    → a ≡ loss_answer c k (goes b order c)
answer-foretold order b a c k f = f.full

pub mask_foretold : (order : List ℕ) (b : Book) (a : Answer) (c k : ℕ) → Foretold order b a c k
    → is_masked (of-book.share_of b c) ≡ true → a ≡ NoNote refusal.Masked c k
mask_foretold order b a c k f = f.masked

-- a note on the pedal goes before one that is down, however old that is; and a key goes where none is on the pedal
pub pedal_goes : (n : ℕ → Slot) (order : List ℕ) (d g : ℕ)
    → first_of (λ h. is_on_pedal (n h) && is_of d (n h)) order ≡ some g → first_to_go n order d ≡ some g
pedal_goes n order d g e = rw e

pub key-goes : (n : ℕ → Slot) (order : List ℕ) (d : ℕ)
    → first_of (λ h. is_on_pedal (n h) && is_of d (n h)) order ≡ none
    → first_to_go n order d ≡ first_of (λ h. is_down (n h) && is_of d (n h)) order
key-goes n order d e = rw e

-- a key that is down is not stolen while its channel has a note on the pedal, whichever channel that is
pub key_unstolen : (b : Book) (c k d g h : ℕ) (w : Was)
    → is_down (remaining b c k g) && is_of d (remaining b c k g) ≡ true
    → is_on_pedal (b.notes h) && is_of d (b.notes h) ≡ true → PedalFirst b (Note c k g w) c k → ⊥
key_unstolen b c k d g h w e p f = false≢true (sym (f d e h) ∙ p)

-- both are claimed at every event of a list; the order of age is that of the answers before it
each-foretold : (S : System) (order : List ℕ) (s : S.State) (pre : List S.Event) (e : S.Event)
    (post : List S.Event) → EachForetold S order s (pre ++ (e ∷ post))
    → AtNoteOn (Foretold (by_answers S order s pre) (S.book (after S s pre)) (S.answer (after S s pre) e))
    (S.hears (after S s pre) e)
unfolding after
each-foretold S order s [] e post f = f.0
each-foretold S order s (x ∷ pre) e post f =
    each-foretold S (named order (S.answer s x)) (S.next s x) pre e post f.1

each_at : (S : System) (F : Book → Answer → ℕ → ℕ → Type 0) (s : S.State) (pre : List S.Event) (e : S.Event)
    (post : List S.Event) → Each S F s (pre ++ (e ∷ post))
    → AtNoteOn (F (S.book (after S s pre)) (S.answer (after S s pre) e)) (S.hears (after S s pre) e)
unfolding after
each_at S F s [] e post f = f.0
each_at S F s (x ∷ pre) e post f = each_at S F (S.next s x) pre e post f.1

pub foretold-at : (S : System) (s : S.State) (pre : List S.Event) (e : S.Event) (post : List S.Event)
    → WhoLoses S s (pre ++ (e ∷ post))
    → AtNoteOn (Foretold (by_answers S [] s pre) (S.book (after S s pre)) (S.answer (after S s pre) e))
    (S.hears (after S s pre) e)
foretold-at S s pre e post w = each-foretold S [] s pre e post w.foretold

pub pedal_first-at : (S : System) (s : S.State) (pre : List S.Event) (e : S.Event) (post : List S.Event)
    → WhoLoses S s (pre ++ (e ∷ post))
    → AtNoteOn (PedalFirst (S.book (after S s pre)) (S.answer (after S s pre) e)) (S.hears (after S s pre) e)
pedal_first-at S s pre e post w = each_at S PedalFirst s pre e post w.pedal_first

-- ---- the end of any list

exact-after : (S : System) (s : S.State) (l : List S.Event) → Always S s l → IsExact S (after S s l)
unfolding after
exact-after S s [] a = a
exact-after S s (e ∷ l) a = exact-after S (S.next s e) l a.1

-- no generator from P on sounds
beyond-idle : (S : System) (s : S.State) → IsExact S s → (g : ℕ)
    → (S.book s).polyphony ≤ g → is_idle (at (S.instrument s).generators g) ≡ true
beyond-idle S s e = e.beyond

-- whatever was played; P is what the book took from the start
pub none_beyond : (p id : ℕ) (l : List Event) (g : ℕ) → (after Live (begin p id) l).book.polyphony ≤ g
    → is_idle (at (after Live (begin p id) l).device.instrument.generators g) ≡ true
none_beyond p id l =
    beyond-idle Live (after Live (begin p id) l) (exact-after Live (begin p id) l (demand_3 p id l).exact)

-- the rhythm channels of the record are told for every channel, 11 among them
module _ (S : System) (s : S.State) (l : List S.Event) where
  pub rhythm-at : SameRhythm S s l → (c : ℕ)
      → of-instrument.is_rhythm (S.instrument (after S s l)) c ≡ of-book.is_rhythm (S.book (after S s l)) c
  rhythm-at h c = h c

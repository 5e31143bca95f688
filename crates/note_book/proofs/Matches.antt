-- The invariant of demand 3: the book is what can be seen of the sound module, its table is well formed, and no note
-- stands on a masked channel. Here: what a change of the generators alone asks for, and the law of note-on, with what
-- it can answer said of the book only. All that follows goes by cases on that.
-- Assumes nothing.
use Rattle.std.specs.Prelude.{if◌then◌else◌, Result, Err}
use mathlib.Core.Path.{◌≡◌, refl, sym, ap, ap₂, ◌∙◌, subst}
use mathlib.Core.Bool.{Bool, true, false, ◌&&◌, ◌||◌, false≢true}
use mathlib.Core.List.{List, [], ◌∷◌, ◌++◌}
use mathlib.Core.Option.{Option, some, none}
use Prim.Native.Nat.{ℕ, ◌≤◌, ◌<◌}
use native.Mathlib.Omega.{arith}
use borrow.Author.Tests.{not-false, ltb-true, ltb-false}
use lib.Dec.{eqb, ltb}
use lib.ListN.{length}
use Rattle.loops.specs.Passes.{filter_by}
use Rattle.loops.proofs.Tests.{and_left, and_right}
use Rattle.refusals.specs.declared.Refusal.{Refusal}
use Rattle.refusals.specs.declared.Refusal.TheVariants as refusal
use Rattle.table.specs.declared.Entry.{Entry}
use Rattle.table.specs.Laws.{WellFormed}
use Rattle.table.specs.Table.{entries_of, listed}
use Rattle.shares.specs.Shares.{shares_from, lookup, is_masked}
use Rattle.shares.specs.Shares as of-table
use Rattle.shares.proofs.Shares.{sum_from, shares-distinct, masked_unlisted}
use Rattle.stealing.specs.Stealing.{over_share}
use Rattle.ages.specs.Ages.{oldest_first, other_than}
use Rattle.generators.specs.declared.Generators.{Generators}
use Rattle.generators.specs.Generators.{at, assigned}
use Rattle.releases.specs.declared.Change.TheVariants.{ReleaseNote}
use Rattle.releases.specs.Releases.{changed}
use Rattle.silence.specs.declared.Leaving.TheVariants.{Group}
use Rattle.age_law.proofs.Assigned.{Ordered, Follows, changed_ordered}
use Rattle.age_law.proofs.Assigned.{follows_assigned, follows_changed, follows_silenced}
use Rattle.allocation.specs.declared.Was.{Was}
use Rattle.allocation.specs.declared.Was.TheVariants.{Stolen}
use Rattle.allocation.specs.declared.Taken.{Taken}
use Rattle.allocation.specs.Allocation.{is_stolen, cleared, choice, allocated, note_on}
use Rattle.instrument.specs.declared.Instrument.{Instrument}
use Rattle.instrument.specs.Instrument.{channel_of, with_generators}
use Rattle.instrument.specs.Instrument as of-instrument
use Rattle.playing.specs.declared.Answer.{Answer}
use Rattle.playing.specs.declared.Answer.TheVariants.{Note, NoNote}
use Rattle.playing.specs.declared.Reply.{Reply}
use Rattle.playing.specs.Playing.{note_reply, play_note_on}
use Rattle.note_book.specs.Book.{Slot, empty, note, Book, with_notes, share_of, is_rhythm}
use Rattle.note_book.specs.Book.{is_note, is_down, is_on_pedal, is_of, is_ended, freed, put, remaining, keep_note_on}
use Rattle.note_book.specs.Claim.{IsFull}
use Rattle.note_book.specs.Age.{named}
use Rattle.note_book.specs.WhoLoses.{with_new, first_to_go, goes, loss_answer, Foretold, PedalFirst}
use Rattle.note_book.proofs.Playable.{Playable, playable_cleared, playable_assigned}
use Rattle.note_book.proofs.Sees.{Sees, sees_cleared, sees_assigned}
use Rattle.note_book.proofs.Pigeons.{IsOver, IsListed}
use Rattle.note_book.proofs.Choose.{idle_slot, same-channel, Full, KeyLast, Chosen, free, theft, shut, chosen}
use Rattle.note_book.proofs.Foretold.{freed-same, foretells}

-- the unmasked channels with their shares
abbrev pub quota : Book → List Entry
quota b = shares_from b.polyphony 0 b.table

pub record Matches (i : Instrument) (b : Book) : Type 0 where
  pub polyphony : i.polyphony ≡ b.polyphony
  pub id : i.id ≡ b.id
  pub table : entries_of i.table ≡ b.table
  pub sixteen : length i.channels ≡ 16
  pub holds : (c : ℕ) → 1 ≤ c → (channel_of i c).hold ≡ b.holds c
  pub bank : (channel_of i 11).bank_msb ≡ b.bank
  pub kind : eqb i.kind 1 ≡ b.rhythm
  pub playable : Playable b.polyphony i.generators
  pub notes : Sees b.notes i.generators
  pub well_formed : WellFormed b.table
  pub unmasked : (g : ℕ) → IsListed (quota b) (b.notes g)

-- the generators and the notes change, and nothing else
pub matches_notes : (i : Instrument) (b : Book) → Matches i b → (s : Generators) (n : ℕ → Slot)
    → Playable b.polyphony s → Sees n s → ((g : ℕ) → IsListed (quota b) (n g))
    → Matches (with_generators i s) (with_notes b n)
unfolding channel_of
matches_notes i b m s n p e u =
    record {
      polyphony = m.polyphony;
      id = m.id;
      table = m.table;
      sixteen = m.sixteen;
      holds = m.holds;
      bank = m.bank;
      kind = m.kind;
      playable = p;
      notes = e;
      well_formed = m.well_formed;
      unmasked = u;
    }

pub freed-listed : (q : List Entry) (f : Slot → Bool) (p : Bool) (x : Slot) → IsListed q x → IsListed q (freed f p x)
freed-listed q f p empty h = tt
freed-listed q f p (note d c k) h = go (f (note d c k)) p
  where
    go : (a b : Bool) → IsListed q (if a then if b then note true c k else empty else note d c k)
    go true true = h
    go true false = tt
    go false b = h

-- ---- what a note-on can answer

pub data Outcome (b : Book) (c k : ℕ) : Answer → Type 0 where
  masked : is_masked (share_of b c) ≡ true → Outcome b c k (NoNote refusal.Masked c k)
  served : (g : ℕ) (w : Was) → is_masked (share_of b c) ≡ false
      → is_stolen w ≡ false → remaining b c k g ≡ empty → Outcome b c k (Note c k g w)
  robbed : (g d : ℕ) → is_masked (share_of b c) ≡ false → IsFull b c k → is_of d (remaining b c k g) ≡ true
      → IsOver (share_of b d) (with_new b.polyphony (remaining b c k) c d)
      → Outcome b c k (Note c k g Stolen)
  turned : is_masked (share_of b c) ≡ false → IsFull b c k
      → IsOver (share_of b c) (with_new b.polyphony (remaining b c k) c c) → Outcome b c k (NoNote refusal.NothingToSteal c k)

pub record NoteLaw (i : Instrument) (b : Book) (c k : ℕ) (r : Reply) : Type 0 where
  pub outcome : Outcome b c k r.answer
  pub matches : Matches r.instrument (keep_note_on b c k r.answer)
  -- the generator that the answer names is the newest
  pub follows : (l : List ℕ) → Follows i.generators l → Follows r.instrument.generators (named l r.answer)
  -- who loses, where a note must go
  pub foretold : (l : List ℕ) → Follows i.generators l → Foretold l b r.answer c k
  pub pedal_first : PedalFirst b r.answer c k

-- what is left is a note that the new one doesn't end
stands : (f : Slot → Bool) (x : Slot) → f empty ≡ false
    → is_note (freed f false x) ≡ true → (is_note x ≡ true) × (f x ≡ false)
stands f empty z e = (e, z)
stands f (note p c k) z e = (refl, go (f (note p c k)) refl e)
  where
    go : (b : Bool) → f (note p c k) ≡ b → is_note (if b then empty else note p c k) ≡ true → b ≡ false
    go true q e = sym e
    go false q e = refl

pub listed_unmasked : (c : ℕ) (q : List Entry) → is_masked (lookup c q) ≡ false → listed c q ≡ true
listed_unmasked c q e = not-false (listed c q) (sym (masked_unlisted c q) ∙ e)

put-listed : (q : List Entry) (n : ℕ → Slot) (h c k : ℕ) → ((g : ℕ) → IsListed q (n g))
    → listed c q ≡ true → (g : ℕ) → IsListed q (put n h (note false c k) g)
put-listed q n h c k u l g = go (eqb g h)
  where
    go : (b : Bool) → IsListed q (if b then note false c k else n g)
    go true = l
    go false = u g

-- steps 2 and 3 leave the order of what still sounds
follows_cleared : (r : Bool) (c k : ℕ) (s : Generators) → Ordered s
    → (l : List ℕ) → Follows s l → Follows (cleared r c k s) l
unfolding cleared
follows_cleared true c k s o l f =
    follows_silenced (Group c k) (changed (ReleaseNote c k) s)
    (changed_ordered (ReleaseNote c k) s o) l (follows_changed (ReleaseNote c k) s o l f)
follows_cleared false c k s o l f = follows_changed (ReleaseNote c k) s o l f

pub same-share : (i : Instrument) (b : Book) → Matches i b → (c : ℕ)
    → of-table.share_of i.table i.polyphony c ≡ share_of b c
unfolding of-table.share_of
same-share i b m c = ap₂ (λ (p : ℕ) (l : List Entry). lookup c (shares_from p 0 l)) m.polyphony m.table

-- the same rhythm channels for both
pub same-rhythm : (i : Instrument) (b : Book) → Matches i b → (c : ℕ) → of-instrument.is_rhythm i c ≡ is_rhythm b c
unfolding of-instrument.is_rhythm
same-rhythm i b m c = ap (λ (r : Bool). eqb c 10 || eqb c 11 && r) m.kind

pub note_law : (i : Instrument) (b : Book) → Matches i b → (c k : ℕ) → NoteLaw i b c k (play_note_on i c k)
unfolding play_note_on note_on
note_law i b m c k = rw (same-rhythm i b m c) (go (is_masked (of-table.share_of i.table i.polyphony c)) refl)
  where
    p : ℕ
    p = b.polyphony

    r : Bool
    r = is_rhythm b c

    s : Generators
    s = cleared r c k i.generators

    n : ℕ → Slot
    n = remaining b c k

    q : List Entry
    q = quota b

    ready : Playable p s
    ready = playable_cleared r c k p i.generators m.playable

    seen : Sees n s
    seen = sees_cleared r c k b.notes i.generators m.playable.ordered m.notes

    standing : (g : ℕ) → IsListed q (n g)
    standing g = freed-listed q (is_ended r c k) false (b.notes g) (m.unmasked g)

    choose : listed c q ≡ true → Chosen p n s q c (choice s i.table i.polyphony c)
    choose l =
        subst (λ (x : ℕ). Chosen p n s q c (choice s i.table x c)) (sym m.polyphony)
        (chosen p n s ready seen q c (shares-distinct p 0 b.table m.well_formed.distinct)
        (let h = sum_from p 0 b.table m.well_formed.rising (omega arith) in omega arith) l standing i.table
        (ap (λ (l : List Entry). shares_from p 0 l) m.table))

    full : Full p n → IsFull b c k
    full f g h = stands (is_ended r c k) (b.notes g) refl (f g h)

    -- where the new note ends none of the notes, they are those of the book
    same-notes : IsFull b c k → (g : ℕ) → n g ≡ b.notes g
    same-notes f g = go (ltb g p) refl
      where
        go : (x : Bool) → ltb g p ≡ x → n g ≡ b.notes g
        go true x = freed-same (is_ended r c k) (b.notes g) (f g (ltb-true g p x)).1
        go false x =
            let z = idle_slot (at i.generators g) (m.playable.above g (ltb-false g p x)) in
            freed-same (is_ended r c k) (b.notes g) (ap (is_ended r c k) (m.notes g ∙ z))

    told : IsFull b c k → (l : List ℕ) → Follows i.generators l → (d : ℕ) (x : Option ℕ)
        → over_share (with_new p n c) q ≡ some d → first_to_go n (oldest_first s.ages) d ≡ x
        → loss_answer c k x ≡ loss_answer c k (goes b l c)
    told w l f d x o e =
        ap (loss_answer c k) (sym (foretells b n (same-notes w) s seen l
        (follows_cleared r c k i.generators m.playable.ordered l f) c d x o e))

    unmasked : {l : List ℕ} {a : Answer} → is_masked (share_of b c) ≡ false
        → (IsFull b c k → a ≡ loss_answer c k (goes b l c)) → Foretold l b a c k
    unmasked u f = record { masked = λ v. absurd (false≢true (sym u ∙ v)); full = λ v. f }

    -- a note on a generator that had none, though all had
    no_gap : IsFull b c k → (g : ℕ) → g < p → n g ≡ empty → ⊥
    no_gap w g h e = false≢true (sym (ap is_note (sym (same-notes w g) ∙ e)) ∙ (w g h).0)

    key-last : (g d : ℕ) → IsFull b c k → is_of d (n g) ≡ true → KeyLast n d g
        → (x : ℕ) → is_down (n g) && is_of x (n g) ≡ true
        → (h : ℕ) → is_on_pedal (b.notes h) && is_of x (b.notes h) ≡ false
    key-last g d w e last x y h =
        let z : x ≡ d = same-channel x d (n g) (and_right (is_down (n g)) _ y) e in
        ap₂ (λ (u : Slot) (v : ℕ). is_on_pedal u && is_of v u) (sym (same-notes w h)) z
        ∙ last (and_left (is_down (n g)) _ y) h

    taking : listed c q ≡ true → (g : ℕ) → g < p
        → Matches (with_generators i (assigned g c k s)) (with_notes b (put n g (note false c k)))
    taking l g h =
        let z = ready.few in
        matches_notes i b m (assigned g c k s) (put n g (note false c k)) (playable_assigned g c k p s ready h)
        (sees_assigned g c k n s ready.ordered.sized (omega arith) seen) (put-listed q n g c k standing l)

    same : Matches (with_generators i i.generators) b
    same = matches_notes i b m i.generators b.notes m.playable m.notes m.unmasked

    newest : (g : ℕ) → g < p → (l : List ℕ) → Follows i.generators l
        → Follows (assigned g c k s) (filter_by (other_than g) l ++ (g ∷ []))
    newest g h l f =
        let z = ready.few in
        follows_assigned s ready.ordered g c k (omega arith) l
        (follows_cleared r c k i.generators m.playable.ordered l f)

    take : is_masked (share_of b c) ≡ false → listed c q ≡ true → (t : Result Taken Refusal)
        → Chosen p n s q c t → NoteLaw i b c k (note_reply i c k (allocated i.generators s c k t))
    take u l t (free g w z h e) =
        record {
          outcome = served g w u z e;
          matches = taking l g h;
          follows = newest g h;
          foretold = λ y a. unmasked u (λ f. absurd (no_gap f g h e));
          pedal_first = λ x y. absurd (false≢true (sym (ap (λ (z : Slot). is_down z && is_of x z) e) ∙ y));
        }
    take u l t (theft g d f h e v o r last) =
        record {
          outcome = robbed g d u (full f) e v;
          matches = taking l g h;
          follows = newest g h;
          foretold = λ y a. unmasked u (λ w. told w y a d (some g) o r);
          pedal_first = key-last g d (full f) e last;
        }
    take u l t (shut f v z o r) =
        record {
          outcome = turned u (full f) v;
          matches = same;
          follows = λ l f. f;
          foretold = λ y a. unmasked u (λ w. told w y a c none o r);
          pedal_first = λ x y. absurd (false≢true y);
        }

    go : (x : Bool) → is_masked (of-table.share_of i.table i.polyphony c) ≡ x
        → NoteLaw i b c k (note_reply i c k (if x then record { taken = Err refusal.Masked; generators = i.generators }
        else allocated i.generators s c k (choice s i.table i.polyphony c)))
    go true e =
        let z : is_masked (share_of b c) ≡ true = ap is_masked (sym (same-share i b m c)) ∙ e in
        record {
          outcome = masked z;
          matches = same;
          follows = λ l f. f;
          foretold = λ l f. record { masked = λ v. refl; full = λ v. absurd (false≢true (sym v ∙ z)) };
          pedal_first = λ x y. absurd (false≢true y);
        }
    go false e =
        let u : is_masked (share_of b c) ≡ false = ap is_masked (sym (same-share i b m c)) ∙ e in
        let l = listed_unmasked c q u in
        take u l (choice s i.table i.polyphony c) (choose l)

-- The three claims of demand 3 about a list, for any system of events that comes down to messages, tables, resets and
-- reports (`Lawful`). In a run the channel that keeps within its share goes on doing so: only its own note-ons add to
-- its notes, and each is counted before it is answered.
-- Assumes nothing.
use Rattle.std.specs.Prelude.{if◌then◌else◌, Option, Some, None}
use mathlib.Core.Path.{◌≡◌, refl, sym, ap, ◌∙◌, subst}
use mathlib.Core.Bool.{Bool, true, false, not, ◌&&◌, false≢true}
use mathlib.Core.List.{List, [], ◌∷◌}
use Prim.Native.Nat.{ℕ, zero, suc, ◌+◌, ◌≤◌}
use native.Mathlib.Omega.{arith}
use borrow.Author.Tests.{eqb-true, eq-eqb, ne_eqb}
use lib.Dec.{eqb}
use Rattle.loops.specs.Cases.{differ, bit}
use Rattle.loops.specs.Passes.{total}
use Rattle.loops.proofs.Cases.{by_both}
use Rattle.loops.proofs.Totals.{total-same, total_le}
use Rattle.message.specs.declared.Message.{Message}
use Rattle.message.specs.declared.Message.TheVariants.{NoteOn, NoteOff, Control, Program, Bend, Other}
use Rattle.table.specs.declared.Table.{Table}
use Rattle.table.specs.Laws.{WellFormed}
use Rattle.table.specs.Table.{entries_of}
use Rattle.shares.specs.Shares.{is_masked}
use Rattle.instrument.specs.declared.Instrument.{Instrument}
use Rattle.instrument.specs.Instrument.{fresh}
use Rattle.playing.specs.declared.Answer.{Answer}
use Rattle.playing.specs.declared.Answer.TheVariants.{Done}
use Rattle.playing.specs.Playing.{played}
use Rattle.channels.specs.Channel.{rhythm_by}
use Rattle.controllers.specs.Controllers.{lifts_pedal, silences_all, ends_all}
use Rattle.reports.specs.Reports.{reported}
use Rattle.exclusive.specs.Exclusive as of-exclusive
use Rattle.note_book.specs.Book.{Slot, empty, note, Book, is_done, share_of, is_rhythm, pedal_down}
use Rattle.note_book.specs.Book.{is_down, is_on_pedal, is_of, is_of_key}
use Rattle.note_book.specs.Book.{with_holds, with_bank, with_rhythm, is_ended, freed, all_freed, put}
use Rattle.note_book.specs.Book.{remaining, keep_note_on, notes_after, keep_control, kind_kept, keep_program}
use Rattle.note_book.specs.Book.{keep_message, keep_report, Heard, nothing, message, new_table, reset, report}
use Rattle.note_book.specs.Book.{keep, notes_on, count_at}
use Rattle.note_book.specs.Claim.{IsWithin, is_loss, IsFull, Fair, Keeps, Safe, AtNoteOn}
use Rattle.note_book.specs.Claim.{IsInRun, System, after, IsExact, Always, Each, IsRun, Demand3}
use Rattle.note_book.specs.Age.{named}
use Rattle.note_book.specs.WhoLoses.{with_new}
use Rattle.note_book.proofs.Pigeons.{IsOver, flip}
use Rattle.note_book.proofs.Choose.{same-channel}
use Rattle.note_book.proofs.Matches.{Matches, Outcome, masked, served, robbed, turned, note_law}
use Rattle.note_book.proofs.Steps.{IsSent, step_message, step_table, step_report, step_reset}

-- ---- one event: what the sound module does at what the book hears

-- an answer that names no generator
abbrev pub IsNoNote : Answer → Type 0
IsNoNote a = (l : List ℕ) → named l a ≡ l

pub data Right (i : Instrument) (b : Book) : Heard → Answer → Instrument → Type 0 where
  right-nothing : (a : Answer) → IsNoNote a → Right i b nothing a i
  right-message : (m : Message) → IsSent m → Right i b (message m) (played i m).answer (played i m).instrument
  right-table : (t : Table) → WellFormed (entries_of t)
      → Right i b (new_table (entries_of t)) Done (of-exclusive.new_table i t)
  right-reset : Right i b reset Done (fresh i.polyphony i.id)
  right-report : (g : ℕ) → Right i b (report g) (reported i g).answer (reported i g).instrument

step : (i j : Instrument) (b : Book) (h : Heard) (a : Answer) → Right i b h a j → Matches i b → Matches j (keep b h a)
unfolding keep
step i j b h a (right-nothing x n) m = m
step i j b h a (right-message x s) m = step_message i b m x s
step i j b h a (right-table t w) m = step_table i b m t (entries_of t) refl w
step i j b h a right-reset m = step_reset i b m
step i j b h a (right-report g) m = step_report i b m g

-- ---- a channel's notes

freed_le : (x : ℕ) (f : Slot → Bool) (p : Bool) (s : Slot) → bit (is_of x (freed f p s)) ≤ bit (is_of x s)
freed_le x f p empty = omega arith
freed_le x f p (note d c k) = go (f (note d c k)) p
  where
    go : (a b : Bool) → bit (is_of x (if a then if b then note true c k else empty else note d c k)) ≤ bit (eqb c x)
    go true true = omega arith
    go true false = omega arith
    go false b = omega arith

-- what frees notes gives no channel one
notes-freed : (p x : ℕ) (f : Slot → Bool) (pedal : Bool) (n : ℕ → Slot)
    → notes_on p x (λ g. freed f pedal (n g)) ≤ notes_on p x n
notes-freed p x f pedal n = total_le (λ (g : ℕ). bit (is_of x (freed f pedal (n g))))
    (λ (g : ℕ). bit (is_of x (n g))) p (λ g. freed_le x f pedal (n g))

-- one slot anew adds its own note at the most, whichever notes count
pub count-put : (t : Slot → Bool) (p h : ℕ) (s : Slot) (n : ℕ → Slot)
    → total (λ g. bit (t (put n h s g))) p ≤ total (λ g. bit (t (n g))) p + bit (t s)
unfolding total
count-put t zero h s n = omega arith
count-put t (suc p) h s n = go (eqb p h) refl (count-put t p h s n)
  where
    -- the places before h are as they were
    low : p ≡ h → total (λ g. bit (t (put n h s g))) p ≡ total (λ g. bit (t (n g))) p
    low e = total-same (λ (g : ℕ). bit (t (put n h s g)))
        (λ (g : ℕ). bit (t (n g))) p (λ g k. rw (ne_eqb g h (λ (q : g ≡ h). omega arith)))

    go : (b : Bool) → eqb p h ≡ b → total (λ g. bit (t (put n h s g))) p ≤ total (λ g. bit (t (n g))) p + bit (t s)
        → total (λ g. bit (t (put n h s g))) p + bit (t (if b then s else n p))
        ≤ total (λ g. bit (t (n g))) p + bit (t (n p)) + bit (t s)
    go true e ih = let k = low (eqb-true p h e) in omega arith
    go false e ih = omega arith

-- from b to b' the table stays, and no channel gains a note
record Tamer (b b' : Book) : Type 0 where
  same-polyphony : b'.polyphony ≡ b.polyphony
  same-table : b'.table ≡ b.table
  fewer : (x : ℕ) → notes_on b.polyphony x b'.notes ≤ notes_on b.polyphony x b.notes

tame_same : (b : Book) → Tamer b b
tame_same b = record { same-polyphony = refl; same-table = refl; fewer = λ x. omega arith }

tame_freed : (f : Slot → Bool) (p : Bool) (b : Book) → Tamer b (all_freed f p b)
tame_freed f p b =
    record { same-polyphony = refl; same-table = refl; fewer = λ x. notes-freed b.polyphony x f p b.notes }

tame_holds : (b b' : Book) (h : ℕ → ℕ) → Tamer b b' → Tamer b (with_holds b' h)
tame_holds b b' h t = record { same-polyphony = t.same-polyphony; same-table = t.same-table; fewer = t.fewer }

tame_bank : (b b' : Book) (v : ℕ) → Tamer b b' → Tamer b (with_bank b' v)
tame_bank b b' v t = record { same-polyphony = t.same-polyphony; same-table = t.same-table; fewer = t.fewer }

tame_rhythm : (b b' : Book) (r : Bool) → Tamer b b' → Tamer b (with_rhythm b' r)
tame_rhythm b b' r t = record { same-polyphony = t.same-polyphony; same-table = t.same-table; fewer = t.fewer }

tame_report : (b : Book) (g : ℕ) (a : Answer) → Tamer b (keep_report b g a)
tame_report b g a =
    by_both (Tamer b) (is_done a) _ _
    (record {
      same-polyphony = refl;
      same-table = refl;
      fewer = λ x. let h = count-put (is_of x) b.polyphony g empty b.notes in omega arith;
    })
    (tame_same b)

tame_control : (b : Book) (c n v : ℕ) → Tamer b (keep_control b c n v)
tame_control b c n v =
    tame_bank b _ _
    (tame_holds b (notes_after b c n v) _
    (by_both (Tamer b) (lifts_pedal n v) _ _ (tame_freed (λ s. is_on_pedal s && is_of c s) false b)
    (by_both (Tamer b) (silences_all n v) _ _ (tame_freed (is_of c) false b)
    (by_both (Tamer b) (ends_all n v) _ _
    (tame_freed (λ s. is_down s && is_of c s) (pedal_down b c && not (is_rhythm b c)) b) (tame_same b)))))

tame_kind : (b : Book) (r : Bool) → Tamer b (kind_kept b r)
tame_kind b r =
    by_both (Tamer b) (differ r b.rhythm) _ _ (tame_rhythm b _ r (tame_freed (is_of 11) false b)) (tame_same b)

tame_program : (b : Book) (c : ℕ) → Tamer b (keep_program b c)
tame_program b c =
    by_both (Tamer b) (eqb c 11) _ _ (tame_kind b (rhythm_by b.bank b.rhythm)) (tame_same b)

-- ---- the claims at a note-on

fair_on : (b : Book) (c k : ℕ) (a : Answer) → Outcome b c k a → is_loss b c k a ≡ true → IsFull b c k
fair_on b c k a (masked e) h = absurd (false≢true (sym (ap not e) ∙ h))
fair_on b c k a (served g w u n e) h = absurd (false≢true (rw (n, e) at h))
fair_on b c k a (robbed g d u f e v) h = f
fair_on b c k a (turned u f v) h = f

-- at most its share, and more than its share
clash : (x : Option ℕ) (m n : ℕ) → IsWithin x m → IsOver x n → n ≤ m → ⊥
clash None m n h v l = h
clash (Some u) m n h v l = omega arith

within_less : (x : Option ℕ) (m n : ℕ) → n ≤ m → IsWithin x m → IsWithin x n
within_less None m n l h = h
within_less (Some u) m n l h = omega arith

within_unmasked : (x : Option ℕ) (m : ℕ) → IsWithin x m → is_masked x ≡ true → ⊥
within_unmasked None m h e = h
within_unmasked (Some u) m h e = false≢true e

-- channel c keeps within its share, and a note-on of channel d comes
module _ (b : Book) (c d k : ℕ) (w : IsWithin (share_of b c) (notes_on b.polyphony c b.notes))
    (h : d ≡ c → IsWithin (share_of b c) (count_at b c k)) where
  -- what it has with the new note
  asked : IsWithin (share_of b c) (with_new b.polyphony (remaining b d k) d c)
  asked = go (eqb c d) refl
    where
      go : (x : Bool) → eqb c d ≡ x → IsWithin (share_of b c) (notes_on b.polyphony c (remaining b d k) + bit x)
      go true e =
          let q : d ≡ c = sym (eqb-true c d e) in
          subst (λ (y : ℕ). IsWithin (share_of b c) (notes_on b.polyphony c (remaining b y k) + 1)) (sym q) (h q)
      go false e =
          let i = notes-freed b.polyphony c (is_ended (is_rhythm b d) d k) false b.notes in
          within_less (share_of b c) (notes_on b.polyphony c b.notes) _ (omega arith) w

  safe-on : (a : Answer) → Outcome b d k a → Safe c b a d k
  safe-on a (masked e) =
      (λ q. absurd (within_unmasked (share_of b c) _ w (ap (λ (x : ℕ). is_masked (share_of b x)) (sym q) ∙ e)), refl)
  safe-on a (served g v u n e) = (λ q. rw (eq-eqb d d refl, eq-eqb k k refl), ap (is_of c) e)
  safe-on a (robbed g x u f e v) = (λ q. rw (eq-eqb d d refl, eq-eqb k k refl), go (is_of c (remaining b d k g)) refl)
    where
      go : (t : Bool) → is_of c (remaining b d k g) ≡ t → t ≡ false
      go true t =
          let q : x ≡ c = same-channel x c (remaining b d k g) e t in
          absurd (clash (share_of b c) _ _ asked
          (subst (λ (y : ℕ). IsOver (share_of b y) (with_new b.polyphony (remaining b d k) d y)) q v) (omega arith))
      go false t = refl
  safe-on a (turned u f v) = (
    λ q. absurd (clash (share_of b c) _ _ asked
        (subst (λ (y : ℕ). IsOver (share_of b y) (with_new b.polyphony (remaining b d k) d y)) q v) (omega arith)),
    refl,
  )

  -- the new note is in the book, and the channel still within its share
  held_on : (g : ℕ) → IsWithin (share_of b c) (notes_on b.polyphony c (put (remaining b d k) g (note false d k)))
  held_on g =
      let i = count-put (is_of c) b.polyphony g (note false d k) (remaining b d k) in
      let e = flip d c in
      within_less (share_of b c) (with_new b.polyphony (remaining b d k) d c) _
      (subst (λ (x : Bool). notes_on b.polyphony c (put (remaining b d k) g (note false d k))
      ≤ notes_on b.polyphony c (remaining b d k) + bit x) e i) asked

  within_on : (a : Answer) → Outcome b d k a
      → IsWithin (share_of (keep_note_on b d k a) c)
      (notes_on (keep_note_on b d k a).polyphony c (keep_note_on b d k a).notes)
  within_on a (masked e) = w
  within_on a (served g v u n e) = held_on g
  within_on a (robbed g x u f e v) = held_on g
  within_on a (turned u f v) = w

within_tame : (c : ℕ) (b b' : Book) → Tamer b b' → IsWithin (share_of b c) (notes_on b.polyphony c b.notes)
    → IsWithin (share_of b' c) (notes_on b'.polyphony c b'.notes)
within_tame c b b' t w = rw (t.same-polyphony, t.same-table) (within_less (share_of b c) _ _ (t.fewer c) w)

-- ---- at what the book hears

abbrev Within : ℕ → Book → Type 0
Within c b = IsWithin (share_of b c) (notes_on b.polyphony c b.notes)

outcome_of : (i : Instrument) (b : Book) → Matches i b → (c k : ℕ) (a : Answer) (j : Instrument)
    → Right i b (message (NoteOn c k)) a j → Outcome b c k a
unfolding played
outcome_of i b m c k a j (right-message x s) = (note_law i b m c k).outcome

-- a claim at note-ons, at whatever is heard
pub at-note_ons : (F : ℕ → ℕ → Type 0) (h : Heard) → ((c k : ℕ) → h ≡ message (NoteOn c k) → F c k) → AtNoteOn F h
at-note_ons F nothing f = tt
at-note_ons F (message (NoteOn c k)) f = f c k refl
at-note_ons F (message (NoteOff c k)) f = tt
at-note_ons F (message (Control c n v)) f = tt
at-note_ons F (message (Program c n)) f = tt
at-note_ons F (message (Bend c x y)) f = tt
at-note_ons F (message Other) f = tt
at-note_ons F (new_table t) f = tt
at-note_ons F reset f = tt
at-note_ons F (report g) f = tt

module _ (i j : Instrument) (b : Book) (m : Matches i b) where
  within-heard : (c : ℕ) (h : Heard) (a : Answer) → Right i b h a j
      → IsInRun h → Within c b → AtNoteOn (Keeps c b a) h → Within c (keep b h a)
  unfolding keep keep_message
  within-heard c nothing a r n w k = w
  within-heard c (message (NoteOn d x)) a r n w k = within_on b c d x w k a (outcome_of i b m d x a j r)
  within-heard c (message (NoteOff d x)) a r n w k =
      within_tame c b _ (by_both (Tamer b) (is_rhythm b d) _ _ (tame_same b)
      (tame_freed (λ s. is_down s && is_of_key d x s) (pedal_down b d) b)) w
  within-heard c (message (Control d x v)) a r n w k = within_tame c b _ (tame_control b d x v) w
  within-heard c (message (Program d x)) a r n w k = within_tame c b _ (tame_program b d) w
  within-heard c (message (Bend d x y)) a r n w k = w
  within-heard c (message Other) a r n w k = w
  within-heard c (new_table t) a r n w k = absurd n
  within-heard c reset a r n w k = absurd n
  within-heard c (report g) a r n w k = within_tame c b _ (tame_report b g a) w

  fair-heard : (h : Heard) (a : Answer) → Right i b h a j → AtNoteOn (Fair b a) h
  fair-heard h a r = at-note_ons (Fair b a) h
      (λ c k e. fair_on b c k a (outcome_of i b m c k a j (subst (λ (x : Heard). Right i b x a j) e r)))

  safe-heard : (c : ℕ) (h : Heard) (a : Answer) → Right i b h a j
      → Within c b → AtNoteOn (Keeps c b a) h → AtNoteOn (Safe c b a) h
  safe-heard c h a r w k =
      at-note_ons (Safe c b a) h (λ d x e. safe-on b c d x w (subst (AtNoteOn (Keeps c b a)) e k) a
      (outcome_of i b m d x a j (subst (λ (y : Heard). Right i b y a j) e r)))

-- ---- the list

pub record Lawful (S : System) : Type 1 where
  pub Ready : S.State → Type 0
  pub ready : (s : S.State) (e : S.Event) → Ready s → Matches (S.instrument s) (S.book s) → Ready (S.next s e)
  pub right : (s : S.State) (e : S.Event) → Ready s → Matches (S.instrument s) (S.book s)
      → Right (S.instrument s) (S.book s) (S.hears s e) (S.answer s e) (S.instrument (S.next s e))
  pub books : (s : S.State) (e : S.Event) → S.book (S.next s e) ≡ keep (S.book s) (S.hears s e) (S.answer s e)

module _ (S : System) (L : Lawful S) where
  pub record Fine (s : S.State) : Type 0 where
    pub is : L.Ready s
    pub matches : Matches (S.instrument s) (S.book s)

  pub fine_next : (s : S.State) → Fine s → (e : S.Event) → Fine (S.next s e)
  fine_next s f e =
      record {
        is = L.ready s e f.is f.matches;
        matches = subst (Matches (S.instrument (S.next s e))) (sym (L.books s e))
            (step (S.instrument s) (S.instrument (S.next s e)) (S.book s) (S.hears s e)
            (S.answer s e) (L.right s e f.is f.matches) f.matches);
      }

  exact-now : (s : S.State) → Fine s → IsExact S s
  exact-now s f = record { notes = f.matches.notes; beyond = f.matches.playable.above }

  run-exact : (s : S.State) → Fine s → (l : List S.Event) → Always S s l
  run-exact s f [] = exact-now s f
  run-exact s f (e ∷ l) = (exact-now s f, run-exact (S.next s e) (fine_next s f e) l)

  run-fair : (s : S.State) → Fine s → (l : List S.Event) → Each S Fair s l
  run-fair s f [] = tt
  run-fair s f (e ∷ l) = (
    fair-heard (S.instrument s) (S.instrument (S.next s e)) (S.book s)
        f.matches (S.hears s e) (S.answer s e) (L.right s e f.is f.matches),
    run-fair (S.next s e) (fine_next s f e) l,
  )

  run-safe : (c : ℕ) (s : S.State) → Fine s → (l : List S.Event) → IsRun S s l
      → Within c (S.book s) → Each S (Keeps c) s l → Each S (Safe c) s l
  run-safe c s f [] n w k = tt
  run-safe c s f (e ∷ l) n w k =
      let i = S.instrument s in
      let j = S.instrument (S.next s e) in
      let b = S.book s in
      let r = L.right s e f.is f.matches in (
        safe-heard i j b f.matches c (S.hears s e) (S.answer s e) r w k.0,
        run-safe c (S.next s e) (fine_next s f e) l n.1 (subst (Within c) (sym (L.books s e))
            (within-heard i j b f.matches c (S.hears s e) (S.answer s e) r n.0 w k.0)) k.1,
      )

  pub fine_after : (s : S.State) → Fine s → (l : List S.Event) → Fine (after S s l)
  unfolding after
  fine_after s f [] = f
  fine_after s f (e ∷ l) = fine_after (S.next s e) (fine_next s f e) l

  pub lawful_demand_3 : (s : S.State) → Fine s → (l : List S.Event) → Demand3 S s l
  lawful_demand_3 s f l =
      record {
        exact = run-exact s f l;
        fair = run-fair s f l;
        shared = λ pre run post e n c w. run-safe c (after S s pre) (fine_after s f pre) run n w.0 w.1;
      }

-- No song does worse. A potential: twice the notes of the book and the bytes in hand. Each byte adds at most one to it;
-- a theft finds all P generators with a note and takes two away. So thefts wait for P notes, of two bytes each, and the
-- first of them for a status byte.
-- Assumes nothing.
use Rattle.std.specs.Prelude.{if◌then◌else◌}
use mathlib.Core.Path.{◌≡◌, refl, sym, ◌∙◌}
use mathlib.Core.Bool.{Bool, true, false, not, ◌&&◌}
use mathlib.Core.List.{List, [], ◌∷◌}
use Prim.Native.Nat.{ℕ, zero, suc, ◌+◌, ◌≤◌}
use native.Mathlib.Omega.{arith}
use lib.Dec.{eqb, leb}
use lib.ListN.{length}
use Rattle.loops.specs.Cases.{differ, bit}
use Rattle.loops.specs.Passes.{filter_by}
use Rattle.loops.proofs.Cases.{by_both}
use Rattle.loops.proofs.Totals.{total_bits}
use Rattle.loops.proofs.Tests.{impossible}
use Rattle.splitter.specs.Split.{begun, split}
use Rattle.message.specs.declared.Message.TheVariants.{NoteOn, NoteOff, Control, Program, Bend, Other}
use Rattle.refusals.specs.declared.Refusal.TheVariants as refusal
use Rattle.table.specs.Table.{entries_of}
use Rattle.instrument.specs.declared.Instrument.{Instrument}
use Rattle.playing.specs.declared.Answer.{Answer}
use Rattle.playing.specs.declared.Answer.TheVariants as answer
use Rattle.generators.specs.Generators.{at, is_idle}
use Rattle.silence.specs.declared.Leaving.TheVariants as leaving
use Rattle.silence.specs.Silence.{silenced}
use Rattle.instrument.specs.Instrument.{fresh, with_generators}
use Rattle.channels.specs.Channel.{rhythm_by}
use Rattle.controllers.specs.Controllers.{lifts_pedal, silences_all, ends_all}
use Rattle.playing.specs.Playing.{replied, played}
use Rattle.reports.specs.Reports.{reported}
use Rattle.device.specs.Device.{fresh_device, byte_taken}
use Rattle.events.specs.declared.Event.TheVariants.{Byte}
use Rattle.events.specs.Events.{taken}
use Rattle.note_book.specs.Book.{Slot, empty, note, is_note, Book, with_holds, with_bank, with_rhythm, is_done}
use Rattle.note_book.specs.Book.{is_rhythm, pedal_down, is_down, is_on_pedal, is_of_key, is_of_masked, with_table}
use Rattle.note_book.specs.Book.{is_of, is_ended, all_freed, put, remaining, keep_note_on, notes_after}
use Rattle.note_book.specs.Book.{keep_control, kind_kept, keep_program, keep_message, keep_report, Heard, message, keep}
use Rattle.note_book.specs.Claim.{Both, Live}
use Rattle.note_book.proofs.Matches.{Matches, Outcome, masked, served, robbed, turned, note_law}
use Rattle.note_book.proofs.Run.{IsNoNote, Right, right-nothing, right-message, right-table}
use Rattle.note_book.proofs.Run.{right-reset, right-report, count-put, Fine, fine_next}
use Rattle.note_book.proofs.Bytes.{lawful, fresh_both, fine_fresh}
use Rattle.song.specs.Song.{is_theft, thefts}
use Rattle.hardest.specs.Hardest.{most_thefts, polyphony_of, NoWorse}
use Rattle.hardest.proofs.Starts.{every_start}
use Rattle.hardest.proofs.Counts.{in_hand, pays, note_ons, on_heard, notes_in, in_freed, total-full, in_none}

-- ---- one event

abbrev held : Book → ℕ
held b = notes_in b.polyphony b.notes

-- from b to b', where h is heard and a answered
record Step (b b' : Book) (h : Heard) (a : Answer) : Type 0 where
  same : b'.polyphony ≡ b.polyphony
  more : held b' ≤ held b + note_ons h
  theft : is_theft a ≡ true → (note_ons h ≡ 1) × (held b ≡ b.polyphony)

-- no theft, and no note more
record Calm (b b' : Book) : Type 0 where
  same : b'.polyphony ≡ b.polyphony
  fewer : held b' ≤ held b

calm_same : (b : Book) → Calm b b
calm_same b = record { same = refl; fewer = omega arith }

calm_freed : (f : Slot → Bool) (p : Bool) (b : Book) → Calm b (all_freed f p b)
calm_freed f p b = record { same = refl; fewer = in_freed b.polyphony f p b.notes }

calm_holds : (b b' : Book) (h : ℕ → ℕ) → Calm b b' → Calm b (with_holds b' h)
calm_holds b b' h t = record { same = t.same; fewer = t.fewer }

calm_bank : (b b' : Book) (v : ℕ) → Calm b b' → Calm b (with_bank b' v)
calm_bank b b' v t = record { same = t.same; fewer = t.fewer }

calm_rhythm : (b b' : Book) (r : Bool) → Calm b b' → Calm b (with_rhythm b' r)
calm_rhythm b b' r t = record { same = t.same; fewer = t.fewer }

calm_control : (b : Book) (c n v : ℕ) → Calm b (keep_control b c n v)
calm_control b c n v =
    calm_bank b _ _
    (calm_holds b (notes_after b c n v) _
    (by_both (Calm b) (lifts_pedal n v) _ _ (calm_freed (λ s. is_on_pedal s && is_of c s) false b)
    (by_both (Calm b) (silences_all n v) _ _ (calm_freed (is_of c) false b)
    (by_both (Calm b) (ends_all n v) _ _
    (calm_freed (λ s. is_down s && is_of c s) (pedal_down b c && not (is_rhythm b c)) b) (calm_same b)))))

calm_kind : (b : Book) (r : Bool) → Calm b (kind_kept b r)
calm_kind b r =
    by_both (Calm b) (differ r b.rhythm) _ _ (calm_rhythm b _ r (calm_freed (is_of 11) false b)) (calm_same b)

calm_program : (b : Book) (c : ℕ) → Calm b (keep_program b c)
calm_program b c =
    by_both (Calm b) (eqb c 11) _ _ (calm_kind b (rhythm_by b.bank b.rhythm)) (calm_same b)

calm_report : (b : Book) (g : ℕ) (a : Answer) → Calm b (keep_report b g a)
calm_report b g a =
    by_both (Calm b) (is_done a) _ _
    (record { same = refl; fewer = let h = count-put is_note b.polyphony g empty b.notes in omega arith })
    (calm_same b)

no_theft : {A : Type 0} (a : Answer) → is_theft a ≡ false → is_theft a ≡ true → A
no_theft a f t = let q : ◌≡◌ {A = Bool} false true = sym f ∙ t in impossible (cc)

of_calm : (b b' : Book) (h : Heard) (a : Answer) → Calm b b' → is_theft a ≡ false → Step b b' h a
of_calm b b' h a c f = record { same = c.same; more = let k = c.fewer in omega arith; theft = no_theft a f }

-- an answer that names no generator is no theft
unnamed : (a : Answer) → IsNoNote a → is_theft a ≡ false
unfolding filter_by
unnamed (answer.Note c k g w) n = let e = n [] in impossible (cc)
unnamed answer.Nothing n = refl
unnamed answer.Done n = refl
unnamed (answer.NoNote m c k) n = refl
unnamed (answer.Number m) n = refl

reported_theft : (i : Instrument) (g : ℕ) → is_theft (reported i g).answer ≡ false
unfolding reported
reported_theft i g = go (leb i.polyphony g) (is_idle (at i.generators g))
  where
    go : (x y : Bool)
        → is_theft (if x then replied (answer.Number refusal.NoGenerator) i else if y then replied (answer.Number refusal.IdleGenerator) i
        else replied answer.Done (with_generators i (silenced (leaving.One g) i.generators))).answer ≡ false
    go true y = refl
    go false true = refl
    go false false = refl

added : (b : Book) (c k g : ℕ) → notes_in b.polyphony (put (remaining b c k) g (note false c k)) ≤ held b + 1
added b c k g =
    let h = count-put is_note b.polyphony g (note false c k) (remaining b c k) in
    let l = in_freed b.polyphony (is_ended (is_rhythm b c) c k) false b.notes in
    omega arith

-- a note-on: one note more, at most, and a theft finds every generator with a note
step_on : (b : Book) (c k : ℕ) (a : Answer) → Outcome b c k a → Step b (keep_note_on b c k a) (message (NoteOn c k)) a
step_on b c k a (masked e) = of_calm b b _ _ (calm_same b) refl
step_on b c k a (served g w u n e) =
    record { same = refl; more = added b c k g; theft = no_theft (answer.Note c k g w) n }
step_on b c k a (robbed g d u f e v) = record {
  same = refl;
  more = added b c k g;
  theft = λ t. (refl, total-full (λ (h : ℕ). is_note (b.notes h)) b.polyphony (λ h l. (f h l).0));
}
step_on b c k a (turned u f v) = of_calm b b _ _ (calm_same b) refl

step : (i j : Instrument) (b : Book) (h : Heard) (a : Answer) → Right i b h a j → Matches i b → Step b (keep b h a) h a
unfolding keep keep_message played
step i j b h a (right-nothing x n) m = of_calm b b _ x (calm_same b) (unnamed x n)
step i j b h a (right-message (NoteOn c k) s) m = step_on b c k _ (note_law i b m c k).outcome
step i j b h a (right-message (NoteOff c k) s) m =
    of_calm b _ _ answer.Done (by_both (Calm b) (is_rhythm b c) _ _ (calm_same b)
    (calm_freed (λ s. is_down s && is_of_key c k s) (pedal_down b c) b)) refl
step i j b h a (right-message (Control c n v) s) m = of_calm b _ _ answer.Done (calm_control b c n v) refl
step i j b h a (right-message (Program c n) s) m = of_calm b _ _ answer.Done (calm_program b c) refl
step i j b h a (right-message (Bend c x y) s) m = of_calm b b _ answer.Done (calm_same b) refl
step i j b h a (right-message Other s) m = of_calm b b _ answer.Done (calm_same b) refl
step i j b h a (right-table t w) m =
    let f = is_of_masked (with_table b (entries_of t)) in
    of_calm b _ _ answer.Done (record { same = refl; fewer = in_freed b.polyphony f false b.notes }) refl
step i j b h a right-reset m =
    of_calm b _ _ answer.Done (record { same = refl; fewer = let z = in_none b.polyphony in omega arith }) refl
step i j b h a (right-report g) m =
    of_calm b _ _ (reported i g).answer (calm_report b g (reported i g).answer) (reported_theft i g)

-- ---- any list of bytes

-- t thefts of n bytes from s on
abbrev Bounded : ℕ → Both → ℕ → ℕ → Type 0
Bounded p s n t = 1 ≤ t → t + t + (p + p) + 1 ≤ n + in_hand s.splitter + (held s.book + held s.book)

-- a theft, and t more of n bytes, where w bytes are in hand and k notes held after it
robbing : (n t p w k v m : ℕ) → (1 ≤ t → t + t + (p + p) + 1 ≤ n + w + (k + k))
    → w + 2 ≤ v + 1 → 2 ≤ v → k ≤ p → m ≡ p → 1 + t + (1 + t) + (p + p) + 1 ≤ suc n + v + (m + m)
robbing n zero p w k v m ih a b c d = omega arith
robbing n (suc t) p w k v m ih a b c d = let i = ih (omega arith) in omega arith

-- one byte before the rest
module _ (p : ℕ) (s : Both) (f : Fine Live lawful s) (x : ℕ) where
  abbrev hears : Heard
  hears = Live.hears s (Byte x)

  abbrev a : Answer
  a = Live.answer s (Byte x)

  abbrev next : Both
  next = Live.next s (Byte x)

  law : Step s.book (keep s.book hears a) hears a
  law = step s.device.instrument next.device.instrument s.book hears a
      (lawful.right s (Byte x) f.is f.matches) f.matches

  ahead : s.book.polyphony ≡ p → (n t : ℕ) → Bounded p next n t
      → (b : Bool) → is_theft a ≡ b → Bounded p s (suc n) (bit b + t)
  ahead e n t ih true q h =
      let k = pays s.splitter x in
      let k0 = k.0 in
      let k1 = k.1 in
      let o = on_heard s.book.id s.splitter (split s.splitter x).completed a in
      let w = law.theft q in
      let w0 = w.0 in
      let w1 = w.1 in
      let r = total_bits (λ (g : ℕ). is_note (next.book.notes g)) next.book.polyphony in
      let m = law.same in
      robbing n t p (in_hand next.splitter) (held next.book) (in_hand s.splitter)
      (held s.book) ih (omega arith) (omega arith) (omega arith) (omega arith)
  ahead e n t ih false q h =
      let k0 = (pays s.splitter x).0 in
      let o = on_heard s.book.id s.splitter (split s.splitter x).completed a in
      let m = law.more in
      let i = ih (omega arith) in
      omega arith

bounded : (p : ℕ) (s : Both) → Fine Live lawful s → s.book.polyphony ≡ p
    → (l : List ℕ) → Bounded p s (length l) (thefts s.device l)
unfolding thefts taken
bounded p s f e [] = λ h. absurd (omega arith)
bounded p s f e (x ∷ l) =
    ahead p s f x e (length l) (thefts (next p s f x).device l)
    (bounded p (next p s f x) (fine_next Live lawful s f (Byte x)) ((law p s f x).same ∙ e) l)
    (is_theft (byte_taken s.device x).answer) refl

-- ---- from a fresh device

fresh_no_worse : (p id : ℕ) → p ≤ 64 → (l : List ℕ) → thefts (fresh_device p id) l ≤ most_thefts p (length l)
unfolding most_thefts begun
fresh_no_worse p id hi l = go (thefts (fresh_device p id) l) (bounded p (fresh_both p id) (fine_fresh p id hi) refl l)
  where
    go : (t : ℕ) → Bounded p (fresh_both p id) (length l) t → t ≤ most_thefts p (length l)
    go zero h = omega arith
    go (suc t) h = let k = h (omega arith) in let z = in_none p in omega arith

-- No list of n bytes makes more thefts.
pub no_worse : NoWorse
unfolding fresh
no_worse p id l =
    every_start (λ d. thefts d l ≤ most_thefts (polyphony_of d) (length l))
    (λ p id lo hi. fresh_no_worse p id hi l) p id

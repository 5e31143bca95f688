-- Bytes and reports make a lawful system. Bytes enter by one lemma: the device's parser and the book's splitter are
-- the same, so the book hears the message that the device obeys.
-- Assumes nothing.
use Rattle.std.specs.Prelude.{if◌then◌else◌, Result, Ok, Err}
use mathlib.Core.Path.{◌≡◌, refl, sym, ap, subst}
use mathlib.Core.Bool.{Bool, true, false, ◌||◌}
use mathlib.Core.List.{List, []}
use Prim.Native.Nat.{ℕ, ◌/◌, ◌≤◌}
use native.Mathlib.Omega.{arith}
use borrow.Author.Tests.{ltb-false}
use lib.Dec.{eqb, ltb}
use lib.ListN.{drop}
use Rattle.loops.proofs.Cases.{by_both}
use Rattle.loops.proofs.Tests.{or_right}
use Rattle.splitter.specs.declared.Parser.{Parser}
use Rattle.splitter.specs.declared.Completed.{Completed}
use Rattle.splitter.specs.declared.Completed.TheVariants as completed
use Rattle.splitter.specs.Split.{quiet, body, split}
use Rattle.message.specs.Message.{channel_of, decode}
use Rattle.refusals.specs.declared.Refusal.{Refusal}
use Rattle.refusals.specs.declared.Refusal.TheVariants as refusal
use Rattle.table.specs.declared.Entry.{Entry}
use Rattle.table.specs.declared.Table.{Table}
use Rattle.table.specs.Laws.{WellFormed}
use Rattle.sysex.specs.declared.Kind.{Kind}
use Rattle.sysex.specs.declared.Kind.TheVariants as kind
use Rattle.sysex.specs.SysEx.{kind_of}
use Rattle.mip.specs.Mip.{pairs, judged}
use Rattle.mip.proofs.Accepted.{accepted}
use Rattle.age_law.proofs.Assigned.{Follows}
use Rattle.instrument.specs.declared.Instrument.{Instrument}
use Rattle.playing.specs.declared.Answer.TheVariants as answer
use Rattle.device.specs.declared.Output.{Output}
use Rattle.device.specs.Device.{fresh_device, fresh_output, started, heard, byte_taken}
use Rattle.exclusive.specs.Exclusive.{judged_reply, mip_taken, kind_reply, exclusive}
use Rattle.exclusive.specs.Exclusive as of-exclusive
use Rattle.events.specs.declared.Event.{Event}
use Rattle.events.specs.declared.Event.TheVariants.{Byte, Report}
use Rattle.events.specs.Events.{report_taken, taken}
use Rattle.note_book.specs.Book.{Book, fresh_book, start_book, nothing, new_table}
use Rattle.note_book.specs.Book.{is_done, exclusive_heard, completed_heard}
use Rattle.note_book.specs.Claim.{Both, Live, begin}
use Rattle.note_book.proofs.Matches.{Matches}
use Rattle.note_book.proofs.Steps.{IsSent, step_fresh}
use Rattle.note_book.proofs.Run.{Right, right-nothing, right-message, right-table}
use Rattle.note_book.proofs.Run.{right-reset, right-report, Lawful, Fine}
use Rattle.note_book.proofs.Age.{nothing_sounds}

-- ---- messages

decode_sent : (s a b : ℕ) → IsSent (decode s a b)
unfolding decode
decode_sent s a b =
    let lo : 1 ≤ channel_of s = omega arith in
    let hi : channel_of s ≤ 16 = omega arith in
    by_both IsSent (eqb (s / 16) 8) _ _ lo
    (by_both IsSent (eqb (s / 16) 9) _ _ (by_both IsSent (eqb b 0) _ _ lo tt)
    (by_both IsSent (eqb (s / 16) 11) _ _ (lo, hi)
    (by_both IsSent (eqb (s / 16) 12) _ _ (lo, hi)
    (by_both IsSent (eqb (s / 16) 14) _ _ (lo, hi) tt))))

-- ---- SysEx

module _ (i : Instrument) (b : Book) (l : List ℕ) where
  mip-right : (v : Result Table Refusal) → judged (drop 4 l) ≡ v
      → Right i b (if is_done (judged_reply i v).answer then new_table (pairs (drop 4 l)) else nothing)
      (judged_reply i v).answer (judged_reply i v).instrument
  mip-right (Ok t) e =
      let a = accepted (drop 4 l) t e in
      subst (λ (x : List Entry). Right i b (new_table x) answer.Done (of-exclusive.new_table i t)) a.entries
      (right-table t (subst WellFormed (sym a.entries) a.well_formed))
  mip-right (Err r) e = right-nothing (answer.Number r) (λ m. refl)

  kind-right : (k : Kind) → Right i b (if is_done (kind_reply i l k).answer then exclusive_heard l k else nothing)
      (kind_reply i l k).answer (kind_reply i l k).instrument
  unfolding mip_taken
  kind-right kind.Mip = mip-right (judged (drop 4 l)) refl
  kind-right kind.SystemOn = right-reset
  kind-right kind.Other = right-nothing answer.Nothing (λ m. refl)

-- ---- the splitting lemma

completed-right : (i : Instrument) (b : Book) (p : Parser) (c : Completed)
    → Right i b (completed_heard i.id p c (heard i p c).answer) (heard i p c).answer (heard i p c).instrument
unfolding heard exclusive
completed-right i b p completed.Nothing = right-nothing answer.Nothing (λ m. refl)
completed-right i b p completed.Stray = right-nothing (answer.Number refusal.Stray) (λ m. refl)
completed-right i b p completed.Cut = right-nothing (answer.Number refusal.Cut) (λ m. refl)
completed-right i b p (completed.Message s x y) = right-message (decode s x y) (decode_sent s x y)
completed-right i b p completed.SysEx = kind-right i b (body p) (kind_of i.id (body p))

abbrev Synced : Both → Type 0
Synced s = s.device.parser ≡ s.splitter

live_right : (s : Both) (e : Event) → Synced s → Matches s.device.instrument s.book
    → Right s.device.instrument s.book (Live.hears s e) (Live.answer s e) (Live.instrument (Live.next s e))
unfolding taken byte_taken report_taken
live_right s (Byte x) y m =
    let i = s.device.instrument in
    let b = s.book in
    let p = s.device.parser in
    let r = heard i p (split p x).completed in
    subst (λ (q : Parser). Right i b
    (completed_heard b.id q (split q x).completed r.answer) r.answer r.instrument) y
    (subst (λ (n : ℕ). Right i b (completed_heard n p (split p x).completed r.answer) r.answer r.instrument)
    m.id (completed-right i b p (split p x).completed))
live_right s (Report g) y m = right-report g

synced_next : (s : Both) (e : Event) → Synced s → Synced (Live.next s e)
unfolding taken byte_taken report_taken
synced_next s (Byte x) y = ap (λ (q : Parser). (split q x).parser) y
synced_next s (Report g) y = y

pub lawful : Lawful Live
lawful = record { Ready = Synced; ready = λ s e y m. synced_next s e y; right = live_right; books = λ s e. refl }

-- ---- any start

-- a fresh device and a fresh book, of any own ID
abbrev pub fresh_both : ℕ → ℕ → Both
fresh_both p id = record { device = fresh_device p id; splitter = quiet; book = fresh_book p id }

pub fine_fresh : (p id : ℕ) → p ≤ 64 → Fine Live lawful (fresh_both p id)
unfolding lawful
fine_fresh p id h = record { is = refl; matches = step_fresh p id h }

pub fine_begin : (p id : ℕ) → Fine Live lawful (begin p id)
unfolding started
fine_begin p id = go (ltb p 1 || ltb 64 p) refl (ltb 126 id)
  where
    begun : Output → Both
    begun o = record { device = o.device; splitter = quiet; book = start_book p id o.answer }

    go : (x : Bool) → ltb p 1 || ltb 64 p ≡ x → (y : Bool)
        → Fine Live lawful (begun (if x then fresh_output (answer.Number refusal.WrongPolyphony) 1 0
        else if y then fresh_output (answer.Number refusal.WrongId) 1 0 else fresh_output answer.Done p id))
    go true e y = fine_fresh 1 0 (omega arith)
    go false e true = fine_fresh 1 0 (omega arith)
    go false e false = fine_fresh p id (ltb-false 64 p (or_right (ltb p 1) (ltb 64 p) e))

pub silent-begin : (p id : ℕ) → Follows (begin p id).device.instrument.generators []
unfolding started
silent-begin p id = go (ltb p 1 || ltb 64 p) (ltb 126 id)
  where
    go : (x y : Bool)
        → Follows (if x then fresh_output (answer.Number refusal.WrongPolyphony) 1 0 else if y then fresh_output (answer.Number refusal.WrongId) 1 0
        else fresh_output answer.Done p id).device.instrument.generators []
    go true y = nothing_sounds 1 0
    go false true = nothing_sounds 1 0
    go false false = nothing_sounds p id

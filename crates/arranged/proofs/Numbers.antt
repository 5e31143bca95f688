-- In a log no number falls but those up to 11 and 13. A byte is answered with 3 to 11. A report is answered with 12
-- where its generator is not one of P; in a log P is 64 throughout, since no event changes it, and a line's generator
-- is below 64.
-- Assumes nothing.
use Rattle.std.specs.Prelude.{Result, Ok, Err, if◌then◌else◌}
use mathlib.Core.Path.{◌≡◌, refl, sym, ◌∙◌}
use mathlib.Core.Bool.{Bool, true, false}
use mathlib.Core.List.{List, [], ◌∷◌}
use mathlib.Core.Option.{Option, some, none}
use Prim.Native.Nat.{ℕ, zero, suc, ◌≤◌}
use native.Mathlib.Omega.{arith}
use borrow.Author.Tests.{lt-leb}
use lib.Dec.{eqb, leb}
use lib.ListN.{get_or}
use Rattle.loops.specs.Cases.{differ}
use Rattle.loops.proofs.Cases.{by_both}
use Rattle.loops.proofs.Tests.{impossible}
use Rattle.refusals.specs.declared.Refusal.{Refusal}
use Rattle.refusals.specs.declared.Refusal.TheVariants as refusal
use Rattle.refusals.specs.Refusals.{number}
use Rattle.splitter.specs.declared.Parser.{Parser}
use Rattle.splitter.specs.declared.Completed.{Completed}
use Rattle.splitter.specs.declared.Completed.TheVariants as completed
use Rattle.splitter.specs.Split.{body, split}
use Rattle.message.specs.declared.Message.{Message}
use Rattle.message.specs.declared.Message.TheVariants as message
use Rattle.message.specs.Message.{decode}
use Rattle.table.specs.declared.Table.{Table}
use Rattle.sysex.specs.declared.Kind.{Kind}
use Rattle.sysex.specs.declared.Kind.TheVariants.{Mip, SystemOn, Other}
use Rattle.sysex.specs.SysEx.{kind_of}
use Rattle.mip.specs.Mip.{judged}
use Rattle.generators.specs.declared.Generators.{Generators}
use Rattle.generators.specs.Generators.{at, is_idle}
use Rattle.releases.specs.declared.Change.TheVariants.{ReleaseChannel, NoteOff}
use Rattle.releases.specs.Releases.{changed}
use Rattle.silence.specs.declared.Leaving.TheVariants.{One}
use Rattle.silence.specs.Silence.{silenced}
use Rattle.instrument.specs.declared.Instrument.{Instrument}
use Rattle.instrument.specs.Instrument as instrument
use Rattle.other_messages.specs.OtherMessages.{play_note_off, play_control, kind_set, play_program}
use Rattle.playing.specs.declared.Answer.{Answer}
use Rattle.playing.specs.declared.Answer.TheVariants as answer
use Rattle.playing.specs.Playing.{replied, play_note_on, played, number_of}
use Rattle.exclusive.specs.Exclusive.{new_table, judged_reply, mip_taken, kind_reply, exclusive}
use Rattle.reports.specs.Reports.{reported}
use Rattle.device.specs.declared.Device.{Device}
use Rattle.device.specs.Device.{started, heard, byte_taken}
use Rattle.events.specs.declared.Event.{Event}
use Rattle.events.specs.declared.Event.TheVariants.{Byte, Report}
use Rattle.events.specs.Events.{report_taken, taken}
use Rattle.event_line.specs.Log.{event_of, lines_of}
use Rattle.event_line.proofs.Lines.{Loggable, event_loggable}
use Rattle.arranging.specs.Arranging.{fresh, after_line, records}
use Rattle.reached.specs.Reasons.{InAnswer, OfBytes}
use Rattle.reached.proofs.Reasons.{of_byte}
use Rattle.arranged.specs.Laws.{NoOtherNumber}

-- ---- P stays

kind_set_p : (i : Instrument) (r : Bool) → (kind_set i r).polyphony ≡ i.polyphony
unfolding kind_set
kind_set_p i r = go (differ r (instrument.is_rhythm i 11))
  where
    go : (x : Bool) → (if x then instrument.with_generators (instrument.with_kind i r)
        (changed (ReleaseChannel 11) i.generators) else i).polyphony ≡ i.polyphony
    go true = refl
    go false = refl

played_p : (i : Instrument) (m : Message) → (played i m).instrument.polyphony ≡ i.polyphony
unfolding played play_note_on play_note_off play_control play_program instrument.with_channel
played_p i (message.NoteOn c k) = refl
played_p i (message.NoteOff c k) =
    go (instrument.is_rhythm i c) (changed (NoteOff (instrument.pedal_down i c) c k) i.generators)
  where
    go : (b : Bool) (s : Generators) → (if b then i else instrument.with_generators i s).polyphony ≡ i.polyphony
    go true s = refl
    go false s = refl
played_p i (message.Control c n v) = refl
played_p i (message.Program c n) = by_both P (eqb c 11) _ _ (kind_set_p _ _) refl
  where
    P : Instrument → Type 0
    P j = j.polyphony ≡ i.polyphony
played_p i (message.Bend c msb lsb) = refl
played_p i message.Other = refl

kind_p : (i : Instrument) (l : List ℕ) (k : Kind) → (kind_reply i l k).instrument.polyphony ≡ i.polyphony
unfolding mip_taken new_table instrument.fresh
kind_p i l Mip = go (judged _)
  where
    go : (r : Result Table Refusal) → (judged_reply i r).instrument.polyphony ≡ i.polyphony
    go (Ok t) = refl
    go (Err r) = refl
kind_p i l SystemOn = refl
kind_p i l Other = refl

heard_p : (i : Instrument) (p : Parser) (c : Completed) → (heard i p c).instrument.polyphony ≡ i.polyphony
unfolding heard exclusive
heard_p i p completed.Nothing = refl
heard_p i p completed.Stray = refl
heard_p i p completed.Cut = refl
heard_p i p (completed.Message s a b) = played_p i (decode s a b)
heard_p i p completed.SysEx = kind_p i (body p) (kind_of i.id (body p))

polyphony_stays : (d : Device) (e : Event) → (taken d e).device.instrument.polyphony ≡ d.instrument.polyphony
unfolding taken byte_taken report_taken reported
polyphony_stays d (Byte b) = heard_p d.instrument d.parser (split d.parser b).completed
polyphony_stays d (Report g) = go (leb d.instrument.polyphony g) (is_idle (at d.instrument.generators g))
  where
    go : (a b : Bool)
        → (if a then replied (answer.Number refusal.NoGenerator) d.instrument
        else if b then replied (answer.Number refusal.IdleGenerator) d.instrument
        else replied answer.Done (instrument.with_generators d.instrument
        (silenced (One g) d.instrument.generators))).instrument.polyphony
        ≡ d.instrument.polyphony
    go true b = refl
    go false true = refl
    go false false = refl

-- ---- the numbers of a byte

abbrev Few : Refusal → Type 0
Few r = number r ≤ 11

few_of_bytes : OfBytes Few
few_of_bytes = record {
  stray = omega arith;
  cut = omega arith;
  long = omega arith;
  odd = omega arith;
  no_channel = omega arith;
  twice = omega arith;
  falling = omega arith;
  masked = omega arith;
  nothing = omega arith;
}

few_some : (a : Answer) (n : ℕ) → InAnswer Few a → number_of a ≡ some n → n ≤ 11
few_some answer.Nothing n f h = impossible (cc)
few_some answer.Done n f h = impossible (cc)
few_some (answer.Note c k g w) n f h = impossible (cc)
few_some (answer.NoNote r c k) n f h = let e : ◌≡◌ {A = ℕ} (number r) n = cc in omega arith
few_some (answer.Number r) n f h = let e : ◌≡◌ {A = ℕ} (number r) n = cc in omega arith

-- ---- the numbers of an event

few_taken : (d : Device) (e : Event) (n : ℕ) → d.instrument.polyphony ≡ 64
    → Loggable e → number_of (taken d e).answer ≡ some n → (n ≡ 13 → ⊥) → n ≤ 11
unfolding taken byte_taken report_taken reported
few_taken d (Byte b) n p k h q = few_some _ n (of_byte Few few_of_bytes d b) h
few_taken d (Report g) n p k h q =
    go (is_idle (at d.instrument.generators g)) (rw (lt-leb d.instrument.polyphony g (omega arith)) at h)
  where
    go : (b : Bool) → number_of (if b then replied (answer.Number refusal.IdleGenerator) d.instrument else replied answer.Done
        (instrument.with_generators d.instrument (silenced (One g) d.instrument.generators))).answer
        ≡ some n → n ≤ 11
    go true h = let e : ◌≡◌ {A = ℕ} 13 n = cc in absurd (q (sym e))
    go false h = impossible (cc)

after_64 : (d : Device) (o : Option Event) → d.instrument.polyphony ≡ 64 → (after_line d o).instrument.polyphony ≡ 64
unfolding after_line
after_64 d none h = h
after_64 d (some e) h = polyphony_stays d e ∙ h

records_64 : (d : Device) (ls : List (List ℕ)) (j : ℕ) → d.instrument.polyphony ≡ 64
    → fresh.instrument.polyphony ≡ 64 → (get_or (d ∷ records d ls) j fresh).instrument.polyphony ≡ 64
unfolding records
records_64 d ls zero h f = h
records_64 d [] (suc j) h f = f
records_64 d (l ∷ ls) (suc j) h f = records_64 (after_line d (event_of l)) ls j (after_64 d (event_of l) h) f

fresh_64 : fresh.instrument.polyphony ≡ 64
unfolding started instrument.fresh
fresh_64 = refl

pub no_other_number : NoOtherNumber
no_other_number log j e n k h s q =
    few_taken _ e n (records_64 fresh (lines_of log) j fresh_64 fresh_64) (event_loggable _ e h) s q

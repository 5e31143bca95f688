-- An event that is answered *none* moves no generator: of what a byte completes, only nothing and a SysEx that is not
-- for us answer none, and a report never does.
-- Assumes nothing.
use Rattle.std.specs.Prelude.{Result, Ok, Err, if◌then◌else◌}
use mathlib.Core.Path.{◌≡◌, refl, ◌∙◌}
use mathlib.Core.Bool.{Bool, true, false, ◌&&◌}
use mathlib.Core.List.{List}
use Prim.Native.Nat.{ℕ}
use lib.Dec.{leb}
use Rattle.loops.specs.Cases.{bit}
use Rattle.loops.proofs.Padded as padded
use Rattle.loops.proofs.Totals.{total_zero, total-same}
use Rattle.loops.proofs.Tests.{impossible}
use Rattle.refusals.specs.declared.Refusal.{Refusal}
use Rattle.refusals.specs.declared.Refusal.TheVariants as refusal
use Rattle.splitter.specs.declared.Parser.{Parser}
use Rattle.splitter.specs.declared.Completed.{Completed}
use Rattle.splitter.specs.declared.Completed.TheVariants as completed
use Rattle.splitter.specs.Split.{body, split}
use Rattle.message.specs.declared.Message.{Message}
use Rattle.message.specs.declared.Message.TheVariants as message
use Rattle.message.specs.Message.{decode}
use Rattle.table.specs.declared.Table.{Table}
use Rattle.sysex.specs.declared.Kind.{Kind}
use Rattle.sysex.specs.declared.Kind.TheVariants.{Mip, SystemOn, Other}
use Rattle.sysex.specs.SysEx.{kind_of}
use Rattle.mip.specs.Mip.{judged}
use Rattle.generators.specs.Generators.{at, is_busy, is_idle, silent}
use Rattle.allocation.specs.declared.Taken.{Taken}
use Rattle.allocation.specs.Allocation.{note_on}
use Rattle.instrument.specs.declared.Instrument.{Instrument}
use Rattle.instrument.specs.Instrument as instrument
use Rattle.playing.specs.declared.Answer.TheVariants as answer
use Rattle.playing.specs.Playing.{replied, reply_of, play_note_on, played}
use Rattle.silence.specs.declared.Leaving.TheVariants.{One}
use Rattle.silence.specs.Silence.{silenced}
use Rattle.reports.specs.Reports.{reported}
use Rattle.device.specs.declared.Device.{Device}
use Rattle.exclusive.specs.Exclusive.{judged_reply, mip_taken, kind_reply, exclusive}
use Rattle.device.specs.Device.{started, heard, byte_taken}
use Rattle.events.specs.declared.Event.{Event}
use Rattle.events.specs.declared.Event.TheVariants.{Byte, Report}
use Rattle.events.specs.Events.{report_taken, taken}
use Rattle.joint.specs.Joint.{among, busy_on}
use Rattle.arranging.specs.Arranging.{fresh}
use Rattle.arranging.specs.Run.{is_quiet}

no : {A : Type 0} → false ≡ true → A
no h = impossible (cc)

-- a channel message is never answered none
played-answers : (i : Instrument) (m : Message) → is_quiet (played i m).answer ≡ true → (played i m).instrument ≡ i
unfolding played play_note_on
played-answers i (message.NoteOn c k) h =
    go (note_on i.generators i.table i.polyphony (instrument.is_rhythm i c) c k).taken h
  where
    go : {A : Type 0} (t : Result Taken Refusal) → is_quiet (reply_of t c k) ≡ true → A
    go (Ok t) h = no h
    go (Err r) h = no h
played-answers i (message.NoteOff c k) h = no h
played-answers i (message.Control c n v) h = no h
played-answers i (message.Program c n) h = no h
played-answers i (message.Bend c msb lsb) h = no h
played-answers i message.Other h = no h

judged-answers : (i : Instrument) (r : Result Table Refusal)
    → is_quiet (judged_reply i r).answer ≡ true → (judged_reply i r).instrument ≡ i
judged-answers i (Ok t) h = no h
judged-answers i (Err r) h = no h

kind-quiet : (i : Instrument) (l : List ℕ) (k : Kind)
    → is_quiet (kind_reply i l k).answer ≡ true → (kind_reply i l k).instrument ≡ i
unfolding mip_taken
kind-quiet i l Mip h = judged-answers i (judged _) h
kind-quiet i l SystemOn h = no h
kind-quiet i l Other h = refl

heard-quiet : (i : Instrument) (p : Parser) (c : Completed)
    → is_quiet (heard i p c).answer ≡ true → (heard i p c).instrument ≡ i
unfolding heard exclusive
heard-quiet i p completed.Nothing h = refl
heard-quiet i p completed.Stray h = no h
heard-quiet i p completed.Cut h = no h
heard-quiet i p (completed.Message s a b) h = played-answers i (decode s a b) h
heard-quiet i p completed.SysEx h = kind-quiet i (body p) (kind_of i.id (body p)) h

report_answers : {A : Type 0} (i : Instrument) (g : ℕ) → is_quiet (reported i g).answer ≡ true → A
unfolding reported
report_answers i g h = go (leb i.polyphony g) (is_idle (at i.generators g)) h
  where
    go : {A : Type 0} (a b : Bool)
        → is_quiet (if a then replied (answer.Number refusal.NoGenerator) i else if b then replied (answer.Number refusal.IdleGenerator) i
        else replied answer.Done (instrument.with_generators i (silenced (One g) i.generators))).answer ≡ true → A
    go true b h = no h
    go false true h = no h
    go false false h = no h

pub quiet_same : (d : Device) (e : Event) → is_quiet (taken d e).answer ≡ true
    → (taken d e).device.instrument ≡ d.instrument
unfolding taken byte_taken report_taken
quiet_same d (Byte b) h = heard-quiet d.instrument d.parser (split d.parser b).completed h
quiet_same d (Report g) h = report_answers d.instrument g h

-- nothing is busy in a fresh record
pub fresh-idle : (l : List ℕ) → busy_on l fresh.instrument.generators ≡ 0
unfolding busy_on started instrument.fresh silent
fresh-idle l = total-same (λ (g : ℕ). bit (is_busy (at silent g) && among (at silent g).channel l))
    (λ (g : ℕ). 0) 64 (λ g h. rw (padded.blank {A = ℕ} 0 64 g)) ∙ total_zero 64

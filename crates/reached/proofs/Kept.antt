-- The claim, by what every event keeps: each channel in range, the kind 0 or 1, and the first data byte that the parser
-- holds at most 127. A data byte is below 128, so that what a channel message carries is at most 127; it is the last
-- byte, or the first one kept. Nothing else touches the channels but a reset, which makes them fresh.
-- Assumes nothing.
use Rattle.std.specs.Prelude.{if◌then◌else◌, Result, Ok, Err}
use mathlib.Core.Path.{◌≡◌, refl, ◌∙◌}
use mathlib.Core.Bool.{Bool, true, false, ◌&&◌, ◌||◌}
use mathlib.Core.List.{List, [], ◌∷◌}
use Prim.Native.Nat.{ℕ, zero, suc, ◌/◌, ◌-◌, ◌≤◌}
use native.Mathlib.Omega.{arith}
use borrow.Author.Tests.{ltb-true}
use lib.Dec.{eqb, leb, ltb}
use lib.ListN.{length, get_or, set, drop, replicate, length-set}
use Rattle.loops.specs.Cases.{differ, bit, at_most}
use Rattle.loops.proofs.Cases.{by_both}
use Rattle.refusals.specs.declared.Refusal.{Refusal}
use Rattle.table.specs.declared.Table.{Table}
use Rattle.splitter.specs.declared.Parser.{Parser}
use Rattle.splitter.specs.declared.Completed.{Completed}
use Rattle.splitter.specs.declared.Completed.TheVariants as completed
use Rattle.splitter.specs.declared.Split.{Split}
use Rattle.splitter.specs.Split.{begun, stored, one_data_byte, at_last, completed}
use Rattle.splitter.specs.Split.{data_byte, opened, ended, status_byte, split, body}
use Rattle.message.specs.declared.Message.{Message}
use Rattle.message.specs.declared.Message.TheVariants.{NoteOn, NoteOff, Control, Program, Bend, Other}
use Rattle.message.specs.Message.{decode}
use Rattle.sysex.specs.declared.Kind.{Kind}
use Rattle.sysex.specs.declared.Kind.TheVariants as kind
use Rattle.sysex.specs.SysEx.{kind_of}
use Rattle.mip.specs.Mip.{judged}
use Rattle.channels.specs.declared.Channel.{Channel}
use Rattle.channels.specs.Channel.{fresh, fresh_rhythm, with_program}
use Rattle.controllers.specs.Controllers.{data_entry, reset, controlled}
use Rattle.controllers.specs.Controllers as of-controllers
use Rattle.generators.specs.Generators.{at, is_idle}
use Rattle.releases.specs.declared.Change.TheVariants.{ReleaseChannel}
use Rattle.releases.specs.Releases.{changed}
use Rattle.instrument.specs.declared.Instrument.{Instrument}
use Rattle.instrument.specs.Instrument.{channel_at, replaced, channel_of, with_channel, with_kind, with_generators}
use Rattle.instrument.specs.Instrument.{is_rhythm}
use Rattle.instrument.specs.Instrument as of-instrument
use Rattle.other_messages.specs.OtherMessages.{play_note_off, play_control, kind_set, play_program}
use Rattle.playing.specs.declared.Reply.{Reply}
use Rattle.playing.specs.Playing.{play_note_on, played}
use Rattle.exclusive.specs.Exclusive.{new_table, judged_reply, mip_taken, kind_reply, exclusive}
use Rattle.reports.specs.Reports.{reported}
use Rattle.device.specs.declared.Device.{Device}
use Rattle.device.specs.declared.Output.{Output}
use Rattle.device.specs.Device.{fresh_device, started, heard, byte_taken}
use Rattle.events.specs.declared.Event.{Event}
use Rattle.events.specs.declared.Event.TheVariants.{Byte, Report}
use Rattle.events.specs.Events.{report_taken, taken}
use Rattle.reached.specs.Reached.{InRange, after, AlwaysInRange}

-- ---- one channel

fresh_in_range : InRange fresh
unfolding fresh
fresh_in_range = omega arith

rhythm_in_range : InRange fresh_rhythm
unfolding fresh fresh_rhythm
rhythm_in_range = omega arith

at_most_24 : (v : ℕ) → at_most 24 v ≤ 24
at_most_24 v = omega arith

-- a number is at most m, whichever of two it is
up_to : (m : ℕ) (b : Bool) (x y : ℕ) → x ≤ m → y ≤ m → (if b then x else y) ≤ m
up_to m = by_both (λ (x : ℕ). x ≤ m)

module _ (c : Channel) (r : InRange c) where
  reset-in-range : InRange (reset c)
  unfolding reset
  reset-in-range = omega arith

  module _ (n v : ℕ) (h : v ≤ 127) where
    stored-in-range : InRange (of-controllers.stored c n v)
    unfolding of-controllers.stored data_entry
    stored-in-range =
        record {
          program = r.program;
          modulation = up_to 127 (eqb n 1) _ _ h r.modulation;
          volume = up_to 127 (eqb n 7) _ _ h r.volume;
          pan = up_to 127 (eqb n 10) _ _ h r.pan;
          expression = up_to 127 (eqb n 11) _ _ h r.expression;
          hold = up_to 127 (eqb n 64) _ _ h r.hold;
          rpn_msb = up_to 127 (eqb n 98 || eqb n 99) _ _ (omega arith) (up_to 127 (eqb n 101) _ _ h r.rpn_msb);
          rpn_lsb = up_to 127 (eqb n 98 || eqb n 99) _ _ (omega arith) (up_to 127 (eqb n 100) _ _ h r.rpn_lsb);
          bend_msb = r.bend_msb;
          bend_lsb = r.bend_lsb;
          sensitivity = up_to 24 (eqb n 6) _ _
              (up_to 24 (eqb c.rpn_msb 0 && eqb c.rpn_lsb 0) _ _ (at_most_24 v) r.sensitivity)
              r.sensitivity;
          bank_msb = up_to 127 (eqb n 0) _ _ h r.bank_msb;
          bank_lsb = up_to 127 (eqb n 32) _ _ h r.bank_lsb;
        }

    controlled-in-range : InRange (controlled c n v)
    unfolding controlled
    controlled-in-range = by_both InRange (eqb n 121 && eqb v 0) (reset c) _ reset-in-range stored-in-range

-- ---- the sixteen channels, where a fresh one stands for a place that there is not, and the kind of channel 11

record Channels (l : List Channel) (n : ℕ) : Type 0 where
  sixteen : length l ≡ 16
  each : (i : ℕ) → InRange (get_or l i fresh)
  kind : n ≤ 1

abbrev Kept : Instrument → Type 0
Kept i = Channels i.channels i.kind

set_in_range : (l : List Channel) (i : ℕ) (x : Channel) → InRange x
    → ((j : ℕ) → InRange (get_or l j fresh)) → (j : ℕ) → InRange (get_or (set l i x) j fresh)
set_in_range [] i x r h j = h j
set_in_range (y ∷ l) zero x r h zero = r
set_in_range (y ∷ l) zero x r h (suc j) = h (suc j)
set_in_range (y ∷ l) (suc i) x r h zero = h zero
set_in_range (y ∷ l) (suc i) x r h (suc j) = set_in_range l i x r (λ k. h (suc k)) j

fresh_kept : (p id : ℕ) → Kept (of-instrument.fresh p id)
unfolding of-instrument.fresh
fresh_kept p id = record {
  sixteen = refl;
  each = set_in_range (replicate 16 fresh) 9 fresh_rhythm rhythm_in_range (go 16);
  kind = omega arith;
}
  where
    go : (n i : ℕ) → InRange (get_or (replicate n fresh) i fresh)
    go zero i = fresh_in_range
    go (suc n) zero = fresh_in_range
    go (suc n) (suc i) = go n i

module _ (i : Instrument) (k : Kept i) where
  channel-in-range : (c : ℕ) → InRange (channel_of i c)
  unfolding channel_of channel_at
  channel-in-range c = k.each (c - 1)

  with-channel-kept : (c : ℕ) (x : Channel) → InRange x → Kept (with_channel i c x)
  unfolding with_channel replaced
  with-channel-kept c x r = record {
    sixteen = length-set i.channels (c - 1) x ∙ k.sixteen;
    each = set_in_range i.channels (c - 1) x r k.each;
    kind = k.kind;
  }

  kind-set-kept : (r : Bool) → Kept (kind_set i r)
  unfolding kind_set
  kind-set-kept r = go (differ r (is_rhythm i 11))
    where
      one : (r : Bool) → bit r ≤ 1
      one true = omega arith
      one false = omega arith

      go : (x : Bool)
          → Kept (if x then with_generators (with_kind i r) (changed (ReleaseChannel 11) i.generators) else i)
      go true = record { sixteen = k.sixteen; each = k.each; kind = one r }
      go false = k

-- ---- a channel message whose data bytes are at most 127

-- what it stores
abbrev Carries : Message → Type 0
Carries (NoteOn c k) = Unit {0}
Carries (NoteOff c k) = Unit {0}
Carries (Control c n v) = v ≤ 127
Carries (Program c n) = n ≤ 127
Carries (Bend c msb lsb) = (msb ≤ 127) × (lsb ≤ 127)
Carries Other = Unit {0}

decode_carries : (s a b : ℕ) → a ≤ 127 → b ≤ 127 → Carries (decode s a b)
unfolding decode
decode_carries s a b h j =
    by_both Carries (eqb (s / 16) 8) _ _ tt
    (by_both Carries (eqb (s / 16) 9) _ _ (by_both Carries (eqb b 0) _ _ tt tt)
    (by_both Carries (eqb (s / 16) 11) _ _ j
    (by_both Carries (eqb (s / 16) 12) _ _ h
    (by_both Carries (eqb (s / 16) 14) _ _ (j, h) tt))))

played-kept : (i : Instrument) → Kept i → (m : Message) → Carries m → Kept (played i m).instrument
unfolding played play_note_on play_note_off play_control play_program
played-kept i k (NoteOn c key) h = k
played-kept i k (NoteOff c key) h = by_both Kept (is_rhythm i c) _ _ k k
played-kept i k (Control c n v) h = with-channel-kept i k c _ (controlled-in-range _ (channel-in-range i k c) n v h)
played-kept i k (Program c n) h =
    by_both Kept (eqb c 11) _ _ (kind-set-kept _ kept _) kept
  where
    kept : Kept (with_channel i c (with_program (channel_of i c) n))
    kept = with-channel-kept i k c _ (let r = channel-in-range i k c in omega arith)
played-kept i k (Bend c msb lsb) h = with-channel-kept i k c _ (let r = channel-in-range i k c in omega arith)
played-kept i k Other h = k

-- ---- SysEx and reports

abbrev KeptBy : Reply → Type 0
KeptBy r = Kept r.instrument

exclusive-kept : (i : Instrument) → Kept i → (l : List ℕ) → KeptBy (exclusive i l)
unfolding new_table mip_taken exclusive
exclusive-kept i k l = by_kind (kind_of i.id l)
  where
    by-verdict : (v : Result Table Refusal) → KeptBy (judged_reply i v)
    by-verdict (Ok t) = k
    by-verdict (Err r) = k

    by_kind : (x : Kind) → KeptBy (kind_reply i l x)
    by_kind kind.Mip = by-verdict (judged (drop 4 l))
    by_kind kind.SystemOn = fresh_kept i.polyphony i.id
    by_kind kind.Other = k

reported-kept : (i : Instrument) → Kept i → (g : ℕ) → KeptBy (reported i g)
unfolding reported
reported-kept i k g =
    by_both KeptBy (leb i.polyphony g) _ _ k (by_both KeptBy (is_idle (at i.generators g)) _ _ k k)

-- ---- the parser, and what a byte completes

-- the first data byte, of which a channel message is made
abbrev Clean : Parser → Type 0
Clean p = get_or p.bytes 0 0 ≤ 127

abbrev Carried : Completed → Type 0
Carried completed.Nothing = Unit {0}
Carried completed.Stray = Unit {0}
Carried completed.Cut = Unit {0}
Carried (completed.Message s a b) = (a ≤ 127) × (b ≤ 127)
Carried completed.SysEx = Unit {0}

abbrev CleanAfter : Split → Type 0
CleanAfter s = Clean s.parser × Carried s.completed

begun_clean : (s : ℕ) → Clean (begun s)
unfolding begun
begun_clean s = omega arith

ended_carried : (s b : ℕ) → Carried (ended s b)
unfolding ended
ended_carried s b = by_both Carried (eqb s 0xF0) _ _ (by_both Carried (eqb b 0xF7) _ _ tt tt) tt

module _ (p : Parser) (k : Clean p) where
  -- a byte below 128
  module _ (b : ℕ) (h : b ≤ 127) where
    first-set : (l : List ℕ) (n : ℕ) → get_or l 0 0 ≤ 127 → get_or (set l n b) 0 0 ≤ 127
    first-set [] n j = j
    first-set (x ∷ l) zero j = h
    first-set (x ∷ l) (suc n) j = j

    stored-clean : Clean (stored p b)
    unfolding stored
    stored-clean = by_both Clean (ltb p.count 37) _ _ (first-set p.bytes p.count k) k

    completed-clean : CleanAfter (completed p b)
    unfolding completed
    completed-clean =
        by_both CleanAfter (leb 0xF0 p.status) _ _ (begun_clean 0, tt) (begun_clean p.status, (first, second))
      where
        first : (if one_data_byte p.status then b else get_or p.bytes 0 0) ≤ 127
        first = by_both (λ (n : ℕ). n ≤ 127) (one_data_byte p.status) _ _ h k

        second : (if one_data_byte p.status then 0 else b) ≤ 127
        second = by_both (λ (n : ℕ). n ≤ 127) (one_data_byte p.status) _ _ (omega arith) h

    data-clean : CleanAfter (data_byte p b)
    unfolding data_byte
    data-clean = by_both CleanAfter (ltb p.status 0x80) _ _ (k, tt)
        (by_both CleanAfter (at_last p) _ _ completed-clean (stored-clean, tt))

  status-clean : (b : ℕ) → CleanAfter (status_byte p b)
  unfolding opened status_byte
  status-clean b = by_both CleanAfter (leb 0xF8 b) _ _ (k, tt)
      (begun_clean (if ltb b 0xF4 then b else 0), ended_carried p.status b)

  split-clean : (b : ℕ) → CleanAfter (split p b)
  unfolding split
  split-clean b = go (ltb b 0x80) refl
    where
      go : (t : Bool) → ltb b 0x80 ≡ t → CleanAfter (if t then data_byte p b else status_byte p b)
      go true e = data-clean b (let h = ltb-true b 0x80 e in omega arith)
      go false e = status-clean b

-- ---- the device, event by event

heard-kept : (i : Instrument) → Kept i → (p : Parser) (c : Completed) → Carried c → KeptBy (heard i p c)
unfolding heard
heard-kept i k p completed.Nothing h = k
heard-kept i k p completed.Stray h = k
heard-kept i k p completed.Cut h = k
heard-kept i k p (completed.Message s a b) h = played-kept i k (decode s a b) (decode_carries s a b h.0 h.1)
heard-kept i k p completed.SysEx h = exclusive-kept i k (body p)

-- what every event keeps
record Whole (d : Device) : Type 0 where
  clean : Clean d.parser
  kept : Kept d.instrument

taken-whole : (d : Device) → Whole d → (e : Event) → Whole (taken d e).device
unfolding taken byte_taken report_taken
taken-whole d w (Byte b) =
    let s = split-clean d.parser w.clean b in
    record {
      clean = s.0;
      kept = heard-kept d.instrument w.kept d.parser (split d.parser b).completed s.1;
    }
taken-whole d w (Report g) = record { clean = w.clean; kept = reported-kept d.instrument w.kept g }

after-whole : (d : Device) → Whole d → (l : List Event) → Whole (after d l)
unfolding after
after-whole d w [] = w
after-whole d w (e ∷ l) = after-whole (taken d e).device (taken-whole d w e) l

fresh-whole : (p id : ℕ) → Whole (fresh_device p id)
fresh-whole p id = record { clean = begun_clean 0; kept = fresh_kept p id }

abbrev WholeAfter : Output → Type 0
WholeAfter o = Whole o.device

started-whole : (p id : ℕ) → Whole (started p id).device
unfolding started
started-whole p id =
    by_both WholeAfter (ltb p 1 || ltb 64 p) _ _ (fresh-whole 1 0)
    (by_both WholeAfter (ltb 126 id) _ _ (fresh-whole 1 0) (fresh-whole p id))

-- The claim: for every start, refused ones too, and every list of bytes and reports.
pub always_in_range : AlwaysInRange
always_in_range p id l =
    let w = after-whole (started p id).device (started-whole p id) l in
    record {
      sixteen = w.kept.sixteen;
      each = λ c lo hi. channel-in-range (after (started p id).device l).instrument w.kept c;
      kind = w.kept.kind;
    }

-- Why calls are refused: what holds of the nine reasons for which bytes are refused holds of the reason of every answer
-- to a byte, by each definition on the way from the byte to it; each other call has its reasons in one definition.
-- Assumes nothing.
use Rattle.std.specs.Prelude.{Some, None, Result, Ok, Err, if◌then◌else◌}
use Rattle.std.specs.Prelude as std
use mathlib.Core.Bool.{Bool, true, false, ◌||◌}
use mathlib.Core.List.{List, [], ◌∷◌, ◌++◌}
use mathlib.Core.Option.{Option, some, none}
use Prim.Native.Nat.{ℕ, ◌%◌}
use lib.Dec.{eqb, leb, ltb}
use lib.ListN.{length}
use Rattle.loops.proofs.Tests.{impossible}
use Rattle.refusals.specs.declared.Refusal.{Refusal}
use Rattle.refusals.specs.declared.Refusal.TheVariants as refusal
use Rattle.splitter.specs.declared.Parser.{Parser}
use Rattle.splitter.specs.declared.Completed.{Completed}
use Rattle.splitter.specs.declared.Completed.TheVariants as completed
use Rattle.splitter.specs.Split.{body, split}
use Rattle.message.specs.declared.Message.{Message}
use Rattle.message.specs.declared.Message.TheVariants as message
use Rattle.message.specs.Message.{decode}
use Rattle.table.specs.declared.Entry.{Entry}
use Rattle.table.specs.declared.Table.{Table}
use Rattle.table.specs.Table.{listed}
use Rattle.shares.specs.Shares.{is_masked, share_of, is_channel}
use Rattle.sysex.specs.declared.Kind.{Kind}
use Rattle.sysex.specs.declared.Kind.TheVariants.{Mip, SystemOn, Other}
use Rattle.sysex.specs.SysEx.{kind_of}
use Rattle.mip.specs.Mip.{pairs, faulty, judged_by, judged_pairs, judged}
use Rattle.generators.specs.declared.Generators.{Generators}
use Rattle.generators.specs.Generators.{at, is_idle}
use Rattle.candidates.specs.declared.Want.TheVariants.{Releasing}
use Rattle.candidates.specs.Candidates.{lowest_idle, oldest}
use Rattle.stealing.specs.Stealing.{victim}
use Rattle.allocation.specs.declared.Was.{Was}
use Rattle.allocation.specs.declared.Was.TheVariants.{Idle, Release, Stolen}
use Rattle.allocation.specs.declared.Taken.{Taken}
use Rattle.allocation.specs.Allocation.{cleared, or_else, choice, allocated, note_on}
use Rattle.silence.specs.declared.Leaving.TheVariants.{One}
use Rattle.silence.specs.Silence.{silenced}
use Rattle.instrument.specs.declared.Instrument.{Instrument}
use Rattle.instrument.specs.Instrument as instrument
use Rattle.playing.specs.declared.Answer.TheVariants as answer
use Rattle.playing.specs.Playing.{replied, reply_of, play_note_on, played}
use Rattle.exclusive.specs.Exclusive.{judged_reply, mip_taken, kind_reply, exclusive}
use Rattle.reports.specs.Reports.{reported}
use Rattle.device.specs.declared.Device.{Device}
use Rattle.device.specs.Device.{is_wrong_p, fresh_output, started, heard, byte_taken}
use Rattle.events.specs.declared.Event.{Event}
use Rattle.events.specs.declared.Event.TheVariants.{Byte, Report}
use Rattle.events.specs.Events.{report_taken, taken}
use Rattle.queries.specs.Queries.{generator_query, mask_query, share_query}
use Rattle.service.specs.Page.{page_answer}
use Rattle.pitch.specs.Pitch.{is_out, pitch_of}
use Rattle.gains.specs.declared.Gains.{Gains}
use Rattle.gains.specs.Gains.{ForItsReason}
use Rattle.song.specs.Song.{thefts, song, is_too_long, song_answer}
use Rattle.reached.specs.Reasons.{InAnswer, InResult, OfBytes, IsNamed, AlwaysNamed}

-- ---- a byte

module _ (P : Refusal → Type 0) (w : OfBytes P) where
  of_else : (f : std.Option ℕ) (x : Was) (t : Result Taken Refusal) → InResult P t → InResult P (or_else f x t)
  of_else (Some g) x t h = tt
  of_else None x t h = h

  of_choice : (s : Generators) (t : Table) (p c : ℕ) → InResult P (choice s t p c)
  unfolding choice
  of_choice s t p c =
      let theft : Result Taken Refusal = or_else (victim s t p c) Stolen (Err refusal.NothingToSteal) in
      of_else (lowest_idle s p) Idle (or_else (oldest Releasing s) Release theft)
      (of_else (oldest Releasing s) Release theft
      (of_else (victim s t p c) Stolen (Err refusal.NothingToSteal) w.nothing))

  of_allocated : (s r : Generators) (c k : ℕ) (t : Result Taken Refusal) → InResult P t
      → InResult P (allocated s r c k t).taken
  of_allocated s r c k (Ok t) h = tt
  of_allocated s r c k (Err e) h = h

  pub of_note : (s : Generators) (t : Table) (p : ℕ) (rhythm : Bool) (c k : ℕ)
      → InResult P (note_on s t p rhythm c k).taken
  unfolding note_on
  of_note s t p rhythm c k = go (cleared rhythm c k s) (is_masked (share_of t p c))
    where
      go : (r : Generators) (b : Bool)
          → InResult P (if b then record { taken = Err refusal.Masked; generators = s }
          else allocated s r c k (choice r t p c)).taken
      go r true = w.masked
      go r false = of_allocated s r c k (choice r t p c) (of_choice r t p c)

  of_reply : (t : Result Taken Refusal) (c k : ℕ) → InResult P t → InAnswer P (reply_of t c k)
  of_reply (Ok t) c k h = tt
  of_reply (Err r) c k h = h

  pub of_message : (i : Instrument) (m : Message) → InAnswer P (played i m).answer
  unfolding played play_note_on
  of_message i (message.NoteOn c k) =
      let s = i.generators in
      let r = instrument.is_rhythm i c in
      of_reply (note_on s i.table i.polyphony r c k).taken c k (of_note s i.table i.polyphony r c k)
  of_message i (message.NoteOff c k) = tt
  of_message i (message.Control c n v) = tt
  of_message i (message.Program c n) = tt
  of_message i (message.Bend c msb lsb) = tt
  of_message i message.Other = tt

  abbrev OfFault : Option Refusal → Type 0
  OfFault none = Unit {0}
  OfFault (some r) = P r

  of_faulty : (before : List Entry) (v : ℕ) (l : List Entry) → OfFault (faulty before v l)
  unfolding faulty
  of_faulty before v [] = tt
  of_faulty before v (e ∷ l) = go (ltb 16 e.channel) (listed e.channel before)
      (ltb e.value v) (of_faulty (before ++ (e ∷ [])) e.value l)
    where
      go : (a b c : Bool) → OfFault (faulty (before ++ (e ∷ [])) e.value l)
          → OfFault (if a then some refusal.MipNoChannel else if b then some refusal.MipListedTwice
          else if c then some refusal.MipFallingValue else faulty (before ++ (e ∷ [])) e.value l)
      go true b c ih = w.no_channel
      go false true c ih = w.twice
      go false false true ih = w.falling
      go false false false ih = ih

  pub of_table : (l : List ℕ) → InResult P (judged l)
  unfolding judged
  of_table l = go (ltb 32 (length l)) (eqb (length l) 0 || eqb (length l % 2) 1)
    where
      by : (o : Option Refusal) → OfFault o → InResult P (judged_by (pairs l) o)
      by none h = tt
      by (some r) h = h

      go : (a b : Bool)
          → InResult P (if a then Err refusal.MipTooLong
          else if b then Err refusal.MipOddLength else judged_pairs (pairs l))
      go true b = w.long
      go false true = w.odd
      go false false = by (faulty [] 0 (pairs l)) (of_faulty [] 0 (pairs l))

  of_judged : (i : Instrument) (r : Result Table Refusal) → InResult P r → InAnswer P (judged_reply i r).answer
  of_judged i (Ok t) h = tt
  of_judged i (Err r) h = h

  of_kind : (i : Instrument) (l : List ℕ) (k : Kind) → InAnswer P (kind_reply i l k).answer
  unfolding mip_taken
  of_kind i l Mip = of_judged i (judged _) (of_table _)
  of_kind i l SystemOn = tt
  of_kind i l Other = tt

  pub of_sysex : (i : Instrument) (l : List ℕ) → InAnswer P (exclusive i l).answer
  unfolding exclusive
  of_sysex i l = of_kind i l (kind_of i.id l)

  pub of_completed : (i : Instrument) (p : Parser) (c : Completed) → InAnswer P (heard i p c).answer
  unfolding heard
  of_completed i p completed.Nothing = tt
  of_completed i p completed.Stray = w.stray
  of_completed i p completed.Cut = w.cut
  of_completed i p (completed.Message s a b) = of_message i (decode s a b)
  of_completed i p completed.SysEx = of_sysex i (body p)

  pub of_byte : (d : Device) (b : ℕ) → InAnswer P (byte_taken d b).answer
  unfolding byte_taken
  of_byte d b = of_completed d.instrument d.parser (split d.parser b).completed

-- ---- reasons that have a name

named_of_bytes : OfBytes IsNamed
named_of_bytes = record {
  stray = λ n e. impossible (cc);
  cut = λ n e. impossible (cc);
  long = λ n e. impossible (cc);
  odd = λ n e. impossible (cc);
  no_channel = λ n e. impossible (cc);
  twice = λ n e. impossible (cc);
  falling = λ n e. impossible (cc);
  masked = λ n e. impossible (cc);
  nothing = λ n e. impossible (cc);
}

-- ---- the other calls

named_start : (p id : ℕ) → InAnswer IsNamed (started p id).answer
unfolding started
named_start p id = go (is_wrong_p p) (ltb 126 id)
  where
    go : (a b : Bool) → InAnswer IsNamed (if a then fresh_output (answer.Number refusal.WrongPolyphony) 1 0
        else if b then fresh_output (answer.Number refusal.WrongId) 1 0 else fresh_output answer.Done p id).answer
    go true b = λ n e. impossible (cc)
    go false true = λ n e. impossible (cc)
    go false false = tt

named-report : (i : Instrument) (g : ℕ) → InAnswer IsNamed (reported i g).answer
unfolding reported
named-report i g = go (leb i.polyphony g) (is_idle (at i.generators g))
  where
    go : (a b : Bool)
        → InAnswer IsNamed (if a then replied (answer.Number refusal.NoGenerator) i
        else if b then replied (answer.Number refusal.IdleGenerator) i
        else replied answer.Done (instrument.with_generators i (silenced (One g) i.generators))).answer
    go true b = λ n e. impossible (cc)
    go false true = λ n e. impossible (cc)
    go false false = tt

named_event : (d : Device) (e : Event) → InAnswer IsNamed (taken d e).answer
unfolding taken report_taken
named_event d (Byte b) = of_byte IsNamed named_of_bytes d b
named_event d (Report g) = named-report d.instrument g

-- an answer that is refused for one reason, or not
one_reason : {A : Type 0} (b : Bool) (r : Refusal) (a : A) → IsNamed r
    → InResult IsNamed (if b then Err r else Ok a)
one_reason true r a h = h
one_reason false r a h = tt

other_reason : {A : Type 0} (b : Bool) (r : Refusal) (a : A) → IsNamed r
    → InResult IsNamed (if b then Ok a else Err r)
other_reason true r a h = tt
other_reason false r a h = h

named_generator : (d : Device) (g : ℕ) → InResult IsNamed (generator_query d g)
unfolding generator_query
named_generator d g = one_reason (leb d.instrument.polyphony g) refusal.NoGenerator _ (λ n e. impossible (cc))

named_mask : (d : Device) (c : ℕ) → InResult IsNamed (mask_query d c)
unfolding mask_query
named_mask d c = other_reason (is_channel c) refusal.NoChannel _ (λ n e. impossible (cc))

named_share : (d : Device) (c : ℕ) → InResult IsNamed (share_query d c)
unfolding share_query
named_share d c = other_reason (is_channel c) refusal.NoChannel _ (λ n e. impossible (cc))

named_page : (buffer : List ℕ) → InResult IsNamed (page_answer buffer)
unfolding page_answer
named_page buffer = one_reason (ltb (length buffer) 323) refusal.ShortPage _ (λ n e. impossible (cc))

named_pitch : (k s b : ℕ) → InResult IsNamed (pitch_of k s b)
unfolding pitch_of
named_pitch k s b = one_reason (is_out k s b) refusal.PitchOutOfRange _ (λ n e. impossible (cc))

named_gains : (a : Result Gains Refusal) → ForItsReason a → InResult IsNamed a
named_gains (Ok g) h = tt
named_gains (Err r) h = λ n e. impossible (cc)

named_song : (p n : ℕ) (buffer : List ℕ) → InResult IsNamed (song_answer p n buffer)
unfolding song_answer
named_song p n buffer = go (is_wrong_p p)
  where
    go : (a : Bool)
        → InResult IsNamed (if a then Err refusal.WrongPolyphony else
        if is_too_long n (length buffer) then Err refusal.SongTooLong else
        Ok (thefts (started p 0).device (song n)))
    go true = λ m e. impossible (cc)
    go false = one_reason (is_too_long n (length buffer)) refusal.SongTooLong _ (λ m e. impossible (cc))

pub always_named : AlwaysNamed
always_named = record {
  start = named_start;
  event = named_event;
  completed = of_completed IsNamed named_of_bytes;
  message = of_message IsNamed named_of_bytes;
  note = of_note IsNamed named_of_bytes;
  sysex = of_sysex IsNamed named_of_bytes;
  table = of_table IsNamed named_of_bytes;
  report = named-report;
  generator = named_generator;
  mask = named_mask;
  share = named_share;
  page = named_page;
  pitch = named_pitch;
  gains = named_gains;
  song = named_song;
}

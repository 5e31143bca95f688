-- The claim bites. First its words, for any channel, record and start: a claim emptied behind its name would not give
-- these facts. Then what a driver draws from the claim alone, for any list; and lists, computed from the definitions:
-- one that reaches every bound of a channel at once, on channel 16 and behind a refused start, and one to the kind of
-- rhythm. The same of the claim on reasons: its words, what a driver draws from it, and calls that are refused.
-- Assumes nothing.
use mathlib.Core.Path.{◌≡◌, refl, subst}
use mathlib.Core.Bool.{Bool, true, false, ◌||◌}
use mathlib.Core.Logic.{◌⊎◌, inl, inr}
use mathlib.Core.List.{List, [], ◌∷◌}
use mathlib.Core.Option.{none}
use Prim.Native.Nat.{ℕ, ◌+◌, ◌*◌, ◌≤◌, ◌<◌}
use native.Mathlib.Omega.{arith}
use lib.ListN.{get_or}
use borrow.Author.Tests.{eqb-true, eqb-false, le-ltb}
use lib.Dec.{eqb, ltb}
use Rattle.loops.proofs.Cases.{by_both}
use Rattle.splitter.specs.Split.{begun, stored, one_data_byte, completed, data_byte, opened, ended, status_byte, split}
use Rattle.message.specs.Message.{decode}
use Rattle.channels.specs.declared.Channel.{Channel}
use Rattle.channels.specs.Channel as of-channel
use Rattle.controllers.specs.Controllers as of-controllers
use Rattle.generators.specs.Generators.{silent}
use Rattle.instrument.specs.Instrument.{fresh, channel_at, replaced, channel_of, with_channel, is_rhythm}
use Rattle.std.proofs.lemmas.List.{get_or_default}
use Rattle.other_messages.specs.OtherMessages.{notes_after, play_control, kind_set, play_program}
use Rattle.playing.specs.Playing.{played}
use Rattle.reports.specs.Reports.{reported}
use Rattle.device.specs.declared.Device.{Device}
use Rattle.device.specs.declared.Output.{Output}
use Rattle.device.specs.Device.{started, heard, byte_taken}
use Rattle.events.specs.declared.Event.{Event}
use Rattle.events.specs.declared.Event.TheVariants.{Byte, Report}
use Rattle.events.specs.Events.{report_taken, taken}
use Rattle.gains.specs.Gains.{number_for}
use Rattle.std.specs.Prelude.{Result, Err}
use Rattle.refusals.specs.declared.Refusal.{Refusal}
use Rattle.refusals.specs.declared.Refusal.TheVariants as refusal
use Rattle.splitter.specs.declared.Parser.{Parser}
use Rattle.splitter.specs.declared.Completed.{Completed}
use Rattle.message.specs.declared.Message.{Message}
use Rattle.table.specs.declared.Table.{Table}
use Rattle.mip.specs.Mip.{judged}
use Rattle.generators.specs.declared.Generators.{Generators}
use Rattle.allocation.specs.Allocation.{note_on}
use Rattle.instrument.specs.declared.Instrument.{Instrument}
use Rattle.playing.specs.declared.Answer.TheVariants as answer
use Rattle.exclusive.specs.Exclusive.{exclusive}
use Rattle.queries.specs.Queries.{generator_query, mask_query, share_query}
use Rattle.service.specs.Page.{page_answer}
use Rattle.pitch.specs.Pitch.{pitch_of}
use Rattle.gains.specs.declared.Gains.{Gains}
use Rattle.gains.specs.Gains.{ForItsReason}
use Rattle.song.specs.Song.{song_answer}
use Rattle.reached.specs.Reached.{InRange, AllInRange, after, AlwaysInRange}
use Rattle.reached.specs.Reasons.{InAnswer, InResult, OfBytes, IsNamed, AlwaysNamed}
use Rattle.reached.proofs.Kept.{always_in_range}
use Rattle.reached.proofs.Reasons.{always_named}

-- ---- the words

-- R8.24: no number 24, for expression, volume and pan
pub levels_in_range : (c : Channel) → InRange c → number_for c.expression c.volume c.pan ≡ none
levels_in_range c r = simp (le-ltb _ _ r.expression, le-ltb _ _ r.volume, le-ltb _ _ r.pan)

-- what R8.21 asks of a channel: the sensitivity not above 24, the bend not above 16383
pub bend_below_16384 : (c : Channel) → InRange c → (c.sensitivity < 25) × (128 * c.bend_msb + c.bend_lsb < 16384)
bend_below_16384 c r = omega arith

-- those that neither levels nor pitch ask for
pub others_in_range : (c : Channel) → InRange c
    → (c.program ≤ 127) × (c.modulation ≤ 127) × (c.hold ≤ 127) × (c.rpn_msb ≤ 127) × (c.rpn_lsb ≤ 127)
others_in_range c r = (r.program, r.modulation, r.hold, r.rpn_msb, r.rpn_lsb)

pub bank_in_range : (c : Channel) → InRange c → (c.bank_msb ≤ 127) × (c.bank_lsb ≤ 127)
bank_in_range c r = (r.bank_msb, r.bank_lsb)

-- R1.14: there is no third kind
pub melody_or_rhythm : (d : Device) → AllInRange d → (d.instrument.kind ≡ 0) ⊎ (d.instrument.kind ≡ 1)
melody_or_rhythm d a = go (eqb d.instrument.kind 0) refl
  where
    go : (b : Bool) → eqb d.instrument.kind 0 ≡ b → (d.instrument.kind ≡ 0) ⊎ (d.instrument.kind ≡ 1)
    go true e = inl (eqb-true _ 0 e)
    go false e = let h = a.kind in let n = eqb-false d.instrument.kind 0 e in inr (omega arith)

pub last-channel_too : (d : Device) → AllInRange d → InRange (channel_of d.instrument 16)
last-channel_too d a = a.each 16 (omega arith) (omega arith)

-- no channel is missing from the record: whatever is read for a missing one, it is not read for these
pub no_channel-missing : (d : Device) → AllInRange d → (i : ℕ) → i < 16 → (x y : Channel)
    → get_or d.instrument.channels i x ≡ get_or d.instrument.channels i y
no_channel-missing d a i h x y = get_or_default d.instrument.channels i x y (let s = a.sixteen in omega arith)

-- any P and any own ID, refused or not
pub any_start : AlwaysInRange → (p id : ℕ) (l : List Event) → AllInRange (after (started p id).device l)
any_start a = a

-- ---- every list, from the claim alone

module _ (p id : ℕ) (l : List Event) (c : ℕ) (lo : 1 ≤ c) (hi : c ≤ 16) where
  abbrev now : Channel
  now = channel_of (after (started p id).device l).instrument c

  pub levels_never_refused : number_for now.expression now.volume now.pan ≡ none
  levels_never_refused = levels_in_range now ((always_in_range p id l).each c lo hi)

  pub bend_in_range : (now.sensitivity < 25) × (128 * now.bend_msb + now.bend_lsb < 16384)
  bend_in_range = bend_below_16384 now ((always_in_range p id l).each c lo hi)

-- ---- every bound is reached

-- controllers by running status, with RPN 0/0 for the data entry; program; bend. A report, a real_time byte and a
-- number that is no byte stand between
abbrev pub loudest : List Event
loudest =
    Byte 0xBF ∷ Byte 0 ∷ Byte 127 ∷ Byte 32 ∷ Byte 127
    ∷ Byte 1 ∷ Byte 127 ∷ Byte 7 ∷ Byte 127 ∷ Byte 10 ∷ Byte 127 ∷ Byte 11 ∷ Byte 127 ∷ Byte 64 ∷ Byte 127
    ∷ Byte 101 ∷ Byte 0 ∷ Byte 100 ∷ Byte 0 ∷ Byte 6 ∷ Byte 127 ∷ Byte 101
    ∷ Byte 127 ∷ Byte 100 ∷ Byte 0xF8 ∷ Report 0 ∷ Byte 300 ∷ Byte 127
    ∷ Byte 0xCF ∷ Byte 127 ∷ Byte 0xEF ∷ Byte 127 ∷ Byte 127 ∷ []

pub bounds_reached : channel_of (after (started 65 0).device loudest).instrument 16
    ≡ record {
      program = 127;
      modulation = 127;
      volume = 127;
      pan = 127;
      expression = 127;
      hold = 127;
      rpn_msb = 127;
      rpn_lsb = 127;
      bend_msb = 127;
      bend_lsb = 127;
      sensitivity = 24;
      bank_msb = 127;
      bank_lsb = 127;
    }
unfolding begun stored one_data_byte completed data_byte opened ended status_byte split decode of-channel.fresh
    of-controllers.data_entry of-controllers.stored of-controllers.controlled silent fresh channel_at replaced
    channel_of with_channel notes_after play_control play_program played reported started heard byte_taken report_taken
    taken
    after
bounds_reached = refl

-- the kind is melody at every start, refused or not, and rhythm by bank MSB 120 and a program change on channel 11
pub melody_reached : (p id : ℕ) → (after (started p id).device []).instrument.kind ≡ 0
unfolding fresh started after
melody_reached p id = by_both (λ (o : Output). o.device.instrument.kind ≡ 0) (ltb p 1 || ltb 64 p) _ _ refl
    (by_both (λ (o : Output). o.device.instrument.kind ≡ 0) (ltb 126 id) _ _ refl refl)

pub rhythm_reached :
    (after (started 1 0).device (Byte 0xBA ∷ Byte 0 ∷ Byte 120 ∷ Byte 0xCA ∷ Byte 0 ∷ [])).instrument.kind ≡ 1
unfolding begun stored one_data_byte completed data_byte opened ended status_byte split decode of-channel.fresh
    of-channel.rhythm_by of-controllers.stored of-controllers.controlled silent fresh channel_at replaced channel_of
    with_channel is_rhythm notes_after play_control kind_set play_program played started heard byte_taken taken after
rhythm_reached = refl

-- ---- reasons: the words

pub other_has_no_name : (n : ℕ) → IsNamed (refusal.Other n) → ⊥
other_has_no_name n h = h n refl

module _ (P : Refusal → Type 0) (r : Refusal) where
  pub of_a_note : (c k : ℕ) → InAnswer P (answer.NoNote r c k) → P r
  of_a_note c k h = h

  pub of_a_number : InAnswer P (answer.Number r) → P r
  of_a_number h = h

  pub of_a_result : (A : Type 0) → InResult {A = A} P (Err r) → P r
  of_a_result A h = h

-- no other reason than R8.3 to R8.11 is asked for
pub nine_reasons : (P : Refusal → Type 0) → P refusal.Stray → P refusal.Cut → P refusal.MipTooLong
    → P refusal.MipOddLength → P refusal.MipNoChannel → P refusal.MipListedTwice → P refusal.MipFallingValue
    → P refusal.Masked → P refusal.NothingToSteal → OfBytes P
nine_reasons P a b c d e f g h i = record {
  stray = a;
  cut = b;
  long = c;
  odd = d;
  no_channel = e;
  twice = f;
  falling = g;
  masked = h;
  nothing = i;
}

module _ (a : AlwaysNamed) where
  pub at_any_start : (p id : ℕ) → InAnswer IsNamed (started p id).answer
  at_any_start = a.start

  pub at_any_event : (d : Device) (e : Event) → InAnswer IsNamed (taken d e).answer
  at_any_event = a.event

  pub of_whatever_completed : (i : Instrument) (p : Parser) (c : Completed) → InAnswer IsNamed (heard i p c).answer
  of_whatever_completed = a.completed

  pub of_any_message : (i : Instrument) (m : Message) → InAnswer IsNamed (played i m).answer
  of_any_message = a.message

  pub of_any_note : (s : Generators) (t : Table) (p : ℕ) (rhythm : Bool) (c k : ℕ)
      → InResult IsNamed (note_on s t p rhythm c k).taken
  of_any_note = a.note

  pub of_any_sysex : (i : Instrument) (l : List ℕ) → InAnswer IsNamed (exclusive i l).answer
  of_any_sysex = a.sysex

  pub of_any_table : (l : List ℕ) → InResult IsNamed (judged l)
  of_any_table = a.table

  pub of_any-report : (i : Instrument) (g : ℕ) → InAnswer IsNamed (reported i g).answer
  of_any-report = a.report

  pub of_any_generator : (d : Device) (g : ℕ) → InResult IsNamed (generator_query d g)
  of_any_generator = a.generator

  pub of_any_mask : (d : Device) (c : ℕ) → InResult IsNamed (mask_query d c)
  of_any_mask = a.mask

  pub of_any_share : (d : Device) (c : ℕ) → InResult IsNamed (share_query d c)
  of_any_share = a.share

  pub of_any_page : (buffer : List ℕ) → InResult IsNamed (page_answer buffer)
  of_any_page = a.page

  pub of_any_pitch : (k s b : ℕ) → InResult IsNamed (pitch_of k s b)
  of_any_pitch = a.pitch

  pub of_any_gains : (g : Result Gains Refusal) → ForItsReason g → InResult IsNamed g
  of_any_gains = a.gains

  pub of_any_song : (p n : ℕ) (buffer : List ℕ) → InResult IsNamed (song_answer p n buffer)
  of_any_song = a.song

-- ---- reasons: what a driver draws from the claim alone, for any record and event: the case for `Other` is never met

pub no_other_answer : (d : Device) (e : Event) (n : ℕ) → (taken d e).answer ≡ answer.Number (refusal.Other n) → ⊥
no_other_answer d e n h = subst (InAnswer IsNamed) h (always_named.event d e) n refl

pub no_other_note : (d : Device) (e : Event) (n c k : ℕ)
    → (taken d e).answer ≡ answer.NoNote (refusal.Other n) c k → ⊥
no_other_note d e n c k h = subst (InAnswer IsNamed) h (always_named.event d e) n refl

-- ---- reasons: calls that are refused

pub refused_start : (started 65 0).answer ≡ answer.Number refusal.WrongPolyphony
unfolding started
refused_start = refl

pub refused_query : (d : Device) → mask_query d 17 ≡ Err refusal.NoChannel
unfolding mask_query
refused_query d = refl

-- The claims bite, in short lists: a drum is served, an idle generator is given, and so is one whose note a mode
-- message, a drum of its group on channel 11 or a change of that channel's kind has ended; a theft that is allowed; a
-- note on the pedal that goes before an older key; and runs that bring a drum along. What stood there before is
-- computed from the definitions; what becomes of the last note `demand_3` alone says, `who_loses` who pays for it, and
-- `rhythm_is_by-book` which channels are rhythm channels.
-- Assumes nothing.
use mathlib.Core.Path.{◌≡◌, refl, sym, ap, ◌∙◌, subst}
use mathlib.Core.Bool.{Bool, true, false, false≢true}
use mathlib.Core.List.{List, [], ◌∷◌, ◌++◌}
use mathlib.Core.Option.{some}
use Prim.Native.Nat.{ℕ, zero, suc, ◌≤◌, ◌<◌}
use native.Mathlib.Omega.{arith}
use Rattle.loops.specs.Passes.{up_to, total, filter_by, first_of, padded}
use Rattle.splitter.specs.Split.{begun, stored, one_data_byte, completed, data_byte, opened, ended, status_byte, split}
use Rattle.message.specs.Message.{decode}
use Rattle.table.specs.Table.{table_of, start_table, listed}
use Rattle.sysex.specs.SysEx.{is_mip, is_system_on, kind_of}
use Rattle.mip.specs.Mip.{pairs, faulty, judged}
use Rattle.shares.specs.Shares.{shares_from, lookup, is_masked, share_of}
use Rattle.drums.specs.Drums.{group_of, excludes}
use Rattle.ages.specs.Ages.{ages_of, newest}
use Rattle.generators.specs.Generators.{assigned, silent}
use Rattle.releases.specs.Releases.{changes, state_after, changed}
use Rattle.silence.specs.Silence.{is_among, leaves, silenced}
use Rattle.candidates.specs.Candidates.{lowest_idle, wanted, oldest, stolen_first, busy_count}
use Rattle.stealing.specs.Stealing.{over_share, steal_from, victim}
use Rattle.allocation.specs.declared.Was.{Was}
use Rattle.allocation.specs.declared.Was.TheVariants.{Stolen}
use Rattle.allocation.specs.Allocation.{cleared, choice, note_on}
use Rattle.instrument.specs.Instrument.{fresh, is_rhythm, channel_at, replaced, channel_of, with_channel}
use Rattle.channels.specs.Channel.{rhythm_by}
use Rattle.channels.specs.Channel as of-channel
use Rattle.controllers.specs.Controllers.{controlled}
use Rattle.controllers.specs.Controllers as of-controllers
use Rattle.other_messages.specs.OtherMessages.{notes_after, play_note_off, play_control, kind_set, play_program}
use Rattle.masking.specs.Masking.{masked}
use Rattle.exclusive.specs.Exclusive.{new_table, mip_taken, exclusive}
use Rattle.playing.specs.declared.Answer.{Answer}
use Rattle.playing.specs.declared.Answer.TheVariants.{Note}
use Rattle.playing.specs.Playing.{play_note_on, played}
use Rattle.device.specs.Device.{started, heard, byte_taken}
use Rattle.events.specs.declared.Event.{Event}
use Rattle.events.specs.declared.Event.TheVariants.{Byte, Report}
use Rattle.events.specs.Events.{taken, report_taken}
use Rattle.message.specs.declared.Message.TheVariants.{NoteOn}
use Rattle.note_book.specs.Book.{note, message, is_note, is_of, is_ended, keep_message, keep}
use Rattle.note_book.specs.Book as of-book
use Rattle.note_book.specs.Claim.{stolen_note, is_loss, IsFull, is_served, AtNoteOn, after, Both, Live, begin}
use Rattle.note_book.specs.Age.{by_answers}
use Rattle.note_book.specs.WhoLoses.{payer, goes, loss_answer, Foretold, PedalFirst}
use Rattle.note_book.proofs.Demand3.{demand_3, who_loses, rhythm_is_by-book}
use Rattle.reports.specs.Reports.{reported}
use Rattle.note_book.proofs.Witness.{IsGiven, not_lost, key_unstolen, foretold-at, pedal_first-at}

-- ---- arithmetic on numerals, apart from the lists: what a tactic finds in reach it computes

0-of-1 : 0 ≤ 1
0-of-1 = omega arith

1-of-1 : 1 ≤ 1
1-of-1 = omega arith

1-of-2 : 1 ≤ 2
1-of-2 = omega arith

2-of-2 : 2 ≤ 2
2-of-2 = omega arith

not_below_2 : (g : ℕ) → suc (suc g) < 2 → ⊥
not_below_2 g h = omega arith

1-not-10 : ◌≡◌ {A = ℕ} 1 10 → ⊥
1-not-10 e = omega arith

-- ---- P 1, and channel 10 has it: a drum after a report is served

abbrev pub drum : List Event
drum = Report 0 ∷ Byte 0x99 ∷ Byte 36 ∷ Byte 64 ∷ []

pub drum_served : is_served 10 36
    (Live.answer (after Live (begin 1 0) (Report 0 ∷ Byte 0x99 ∷ Byte 36 ∷ [])) (Byte 64)) ≡ true
unfolding total begun stored one_data_byte completed data_byte opened ended status_byte split decode
    shares_from lookup silent fresh reported started heard byte_taken report_taken taken keep_message keep after
drum_served = ((demand_3 1 0 drum).shared [] drum [] refl (tt, (tt, (tt, (tt, tt)))) 10
    (0-of-1, (tt, (tt, (tt, ((λ e. 1-of-1), tt)))))).1.1.1.0.0 refl

-- ---- P 1, nothing played: channel 1 has share 0, and is answered note all the same, since the claim of fairness
-- knows that no generator has a note

abbrev first : Both
first = after Live (begin 1 0) (Byte 0x90 ∷ Byte 60 ∷ [])

pub idle-generator_given : IsGiven (Live.answer first (Byte 64))
unfolding begun stored one_data_byte completed data_byte opened ended status_byte
    split decode shares_from lookup fresh started heard byte_taken taken keep after
idle-generator_given = go (is_loss first.book 1 60 (Live.answer first (Byte 64))) refl
  where
    go : (l : Bool) → is_loss first.book 1 60 (Live.answer first (Byte 64)) ≡ l
        → IsGiven (Live.answer first (Byte 64))
    go true e = absurd (false≢true ((demand_3 1 0 (Byte 0x90 ∷ Byte 60 ∷ Byte 64 ∷ [])).fair.1.1.0 e 0 1-of-1).0)
    go false e = not_lost first.book 1 60 (Live.answer first (Byte 64)) refl e

-- ---- P 1, a note held on channel 1, and the keyboard changes its mode: the next note of channel 1 is given a
-- generator, and steals nothing, since controller 126 has taken the first one out of the book

abbrev new_mode : Both
new_mode =
    after Live (begin 1 0)
    (Byte 0x90 ∷ Byte 60 ∷ Byte 64 ∷ Byte 0xB0 ∷ Byte 126 ∷ Byte 1 ∷ Byte 0x90 ∷ Byte 64 ∷ [])

pub given_behind_126 : IsGiven (Live.answer new_mode (Byte 64))
unfolding up_to total filter_by first_of padded begun stored one_data_byte completed data_byte opened ended status_byte
    split decode table_of start_table shares_from lookup share_of group_of excludes ages_of newest assigned silent
    changes state_after changed is_among leaves silenced lowest_idle cleared choice note_on fresh is_rhythm play_note_on
    played play_control notes_after controlled of-controllers.stored with_channel
    started heard byte_taken taken keep_message keep after
given_behind_126 = go (is_loss new_mode.book 1 64 (Live.answer new_mode (Byte 64))) refl
  where
    go : (l : Bool) → is_loss new_mode.book 1 64 (Live.answer new_mode (Byte 64)) ≡ l
        → IsGiven (Live.answer new_mode (Byte 64))
    go true e =
        absurd (false≢true ((demand_3 1 0
        (Byte 0x90 ∷ Byte 60 ∷ Byte 64 ∷ Byte 0xB0 ∷ Byte 126 ∷ Byte 1 ∷ Byte 0x90 ∷ Byte 64 ∷ Byte 64 ∷ [])
        ).fair.1.1.1.1.1.1.1.1.0 e 0 1-of-1).0)
    go false e = not_lost new_mode.book 1 64 (Live.answer new_mode (Byte 64)) refl e

-- ---- P 1, and channel 11 is made a rhythm channel: bank MSB 120, and a program change

abbrev pub drum_kit : List Event
drum_kit = Byte 0xBA ∷ Byte 0 ∷ Byte 120 ∷ Byte 0xCA ∷ Byte 0 ∷ []

-- the record has it as one, since the book has
pub eleven_is_rhythm : is_rhythm (after Live (begin 1 0) drum_kit).device.instrument 11 ≡ true
unfolding begun stored one_data_byte completed data_byte opened ended status_byte split decode rhythm_by
    started heard byte_taken taken keep_message keep after
eleven_is_rhythm = rhythm_is_by-book 1 0 drum_kit 11

-- its open hi_hat has the only generator. The closed one is given that, though channel 11 has share 0: the claim of
-- fairness knows that it ends the open one
abbrev hi_hat : Both
hi_hat = after Live (begin 1 0) (drum_kit ++ (Byte 0x9A ∷ Byte 46 ∷ Byte 64 ∷ Byte 42 ∷ []))

pub hi_hat_given : IsGiven (Live.answer hi_hat (Byte 64))
unfolding up_to total filter_by first_of padded begun stored one_data_byte completed data_byte opened ended status_byte
    split decode table_of start_table shares_from lookup share_of group_of excludes ages_of newest assigned silent
    changes state_after changed is_among leaves silenced lowest_idle cleared choice note_on fresh is_rhythm play_note_on
    played play_control notes_after controlled of-controllers.stored of-channel.fresh rhythm_by channel_at replaced
    channel_of with_channel kind_set play_program started heard byte_taken taken keep_message keep after
hi_hat_given = go (is_loss hi_hat.book 11 42 (Live.answer hi_hat (Byte 64))) refl
  where
    go : (l : Bool) → is_loss hi_hat.book 11 42 (Live.answer hi_hat (Byte 64)) ≡ l
        → IsGiven (Live.answer hi_hat (Byte 64))
    go true e =
        absurd (false≢true (sym ((demand_3 1 0
        (drum_kit ++ (Byte 0x9A ∷ Byte 46 ∷ Byte 64 ∷ Byte 42 ∷ Byte 64 ∷ []))
        ).fair.1.1.1.1.1.1.1.1.1.0 e 0 1-of-1).1))
    go false e = not_lost hi_hat.book 11 42 (Live.answer hi_hat (Byte 64)) refl e

-- with a share of 1, the generator's whole, it has a claim to that: the count leaves the open one out, which the closed
-- one ends, and the change of kind stands within the run
abbrev pub kit_alone : List Event
kit_alone = Byte 0xF0 ∷ Byte 0x7F ∷ Byte 0x7F ∷ Byte 0x0B ∷ Byte 0x01 ∷ Byte 10 ∷ Byte 1 ∷ Byte 0xF7 ∷ []

abbrev pub hats : List Event
hats = drum_kit ++ (Byte 0x9A ∷ Byte 46 ∷ Byte 64 ∷ Byte 42 ∷ Byte 64 ∷ [])

pub closed_hat_served : is_served 11 42
    (Live.answer (after Live (begin 1 0) (kit_alone ++ (drum_kit ++ (Byte 0x9A ∷ Byte 46 ∷ Byte 64 ∷ Byte 42 ∷ []))))
    (Byte 64)) ≡ true
unfolding up_to total filter_by first_of padded begun stored one_data_byte completed data_byte opened ended status_byte
    split decode table_of start_table shares_from lookup share_of group_of excludes ages_of newest assigned silent
    changes state_after changed is_among leaves silenced lowest_idle cleared choice note_on fresh is_rhythm play_note_on
    played play_control notes_after controlled of-controllers.stored of-channel.fresh rhythm_by channel_at replaced
    channel_of with_channel kind_set play_program started heard byte_taken taken keep_message keep after
    listed is_mip is_system_on kind_of pairs faulty judged masked new_table mip_taken exclusive
closed_hat_served =
    ((demand_3 1 0 (kit_alone ++ (hats ++ []))).shared kit_alone hats [] refl
    (tt, (tt, (tt, (tt, (tt, (tt, (tt, (tt, (tt, (tt, tt)))))))))) 11
    (0-of-1, (tt, (tt, (tt, (tt, (tt, (tt, (tt, ((λ e. 1-of-1), (tt, ((λ e. 1-of-1), tt)))))))))))
    ).1.1.1.1.1.1.1.1.1.0.0 refl

-- a note of its melody time leaves the book with the change of kind, so that the next note, of channel 1, is given the
-- generator
abbrev behind_the_change : Both
behind_the_change =
    after Live (begin 1 0) (Byte 0x9A ∷ Byte 60 ∷ Byte 64 ∷ (drum_kit ++ (Byte 0x90 ∷ Byte 64 ∷ [])))

pub given_behind_a_change_of-kind : IsGiven (Live.answer behind_the_change (Byte 64))
unfolding up_to total filter_by first_of padded begun stored one_data_byte completed data_byte opened ended status_byte
    split decode table_of start_table shares_from lookup share_of group_of excludes ages_of newest assigned silent
    changes state_after changed is_among leaves silenced lowest_idle cleared choice note_on fresh is_rhythm play_note_on
    played play_control notes_after controlled of-controllers.stored of-channel.fresh rhythm_by channel_at replaced
    channel_of with_channel kind_set play_program started heard byte_taken taken keep_message keep after
given_behind_a_change_of-kind =
    go (is_loss behind_the_change.book 1 64 (Live.answer behind_the_change (Byte 64))) refl
  where
    go : (l : Bool) → is_loss behind_the_change.book 1 64 (Live.answer behind_the_change (Byte 64)) ≡ l
        → IsGiven (Live.answer behind_the_change (Byte 64))
    go true e =
        absurd (false≢true ((demand_3 1 0
        (Byte 0x9A ∷ Byte 60 ∷ Byte 64 ∷ (drum_kit ++ (Byte 0x90 ∷ Byte 64 ∷ Byte 64 ∷ [])))
        ).fair.1.1.1.1.1.1.1.1.1.1.0 e 0 1-of-1).0)
    go false e = not_lost behind_the_change.book 1 64 (Live.answer behind_the_change (Byte 64)) refl e

-- ---- P 1, a note held on channel 1: a drum steals it

abbrev theft : Both
theft = after Live (begin 1 0) (Byte 0x90 ∷ Byte 60 ∷ Byte 64 ∷ Byte 0x99 ∷ Byte 36 ∷ [])

-- the loss does happen, and the claim gives what it stands on: generator 0 had a note, and not one that the drum ends
pub theft_when_full : (is_loss theft.book 10 36 (Live.answer theft (Byte 64)) ≡ true)
    × ((is_note (theft.book.notes 0) ≡ true) × (is_ended true 10 36 (theft.book.notes 0) ≡ false))
unfolding up_to total filter_by first_of padded begun stored one_data_byte completed data_byte opened ended status_byte
    split decode table_of start_table shares_from lookup share_of group_of excludes ages_of newest assigned silent
    changes state_after changed is_among leaves silenced lowest_idle wanted oldest stolen_first busy_count over_share
    steal_from victim cleared choice note_on fresh is_rhythm play_note_on played started heard byte_taken taken
    keep_message
    keep after
theft_when_full =
    let lost : is_loss theft.book 10 36 (Live.answer theft (Byte 64)) ≡ true = refl in (
      lost,
      (demand_3 1 0
          (Byte 0x90 ∷ Byte 60 ∷ Byte 64 ∷ Byte 0x99 ∷ Byte 36 ∷ Byte 64 ∷ [])).fair.1.1.1.1.1.0 lost 0 1-of-1,
    )

-- ---- P 2, the pianist: C4 is down, D4 is younger and on the pedal, and E4 finds no generator. Book and answers say
-- who loses: D4 on generator 1, and not the older key under the finger

abbrev pub pianist : List Event
pianist =
    Byte 0xB0 ∷ Byte 64 ∷ Byte 127 ∷ Byte 0x90 ∷ Byte 60 ∷ Byte 64 ∷ Byte 62 ∷ Byte 64 ∷ Byte 62 ∷ Byte 0 ∷ Byte 64 ∷ []

-- what the book has, and the order by the answers, where the last byte comes
record BeforeE4 (s : Both) (order : List ℕ) : Type 0 where
  hears : Live.hears s (Byte 64) ≡ message (NoteOn 1 64)
  generators : s.book.polyphony ≡ 2
  c4 : s.book.notes 0 ≡ note false 1 60
  d4 : s.book.notes 1 ≡ note true 1 62
  unmasked : is_masked (of-book.share_of s.book 1) ≡ false
  pays : payer s.book 1 ≡ some 1
  ages : order ≡ 0 ∷ 1 ∷ []

-- so the claims say who loses, and who does not; nothing of the device is computed here
module _ (s : Both) (order : List ℕ) (w : BeforeE4 s order) where
  d4-goes : AtNoteOn (Foretold order s.book (Live.answer s (Byte 64))) (Live.hears s (Byte 64))
      → Live.answer s (Byte 64) ≡ Note 1 64 1 Stolen
  unfolding first_of
  d4-goes f =
      let g : goes s.book order 1 ≡ some 1 = rw (w.pays, w.ages, w.c4, w.d4) in
      (subst (AtNoteOn (Foretold order s.book (Live.answer s (Byte 64)))) w.hears f).full w.unmasked full
      ∙ ap (loss_answer 1 64) g
    where
      full : IsFull s.book 1 64
      full zero h = (ap is_note w.c4, ap (is_ended false 1 64) w.c4)
      full (suc zero) h = (ap is_note w.d4, ap (is_ended false 1 64) w.d4)
      full (suc (suc g)) h = absurd (not_below_2 g (subst (λ (p : ℕ). suc (suc g) < p) w.generators h))

  c4-stays : AtNoteOn (PedalFirst s.book (Live.answer s (Byte 64))) (Live.hears s (Byte 64))
      → (v : Was) → Live.answer s (Byte 64) ≡ Note 1 64 0 v → ⊥
  c4-stays f v e =
      let p = subst (AtNoteOn (PedalFirst s.book (Live.answer s (Byte 64)))) w.hears f in
      key_unstolen s.book 1 64 1 0 1 v (rw w.c4) (rw w.d4)
      (subst (λ (a : Answer). PedalFirst s.book a 1 64) e p)

before_e4 : BeforeE4 (after Live (begin 2 0) pianist) (by_answers Live [] (begin 2 0) pianist)
unfolding up_to total filter_by first_of padded begun stored one_data_byte completed data_byte opened ended status_byte
    split decode table_of start_table shares_from lookup share_of group_of excludes ages_of newest assigned silent
    changes state_after changed is_among leaves silenced lowest_idle over_share cleared choice note_on fresh is_rhythm
    play_note_on played play_note_off channel_of play_control notes_after controlled of-controllers.stored with_channel
    started heard byte_taken taken keep_message keep after
before_e4 =
    record { hears = refl; generators = refl; c4 = refl; d4 = refl; unmasked = refl; pays = refl; ages = refl }

pub pedal_note-foretold : Live.answer (after Live (begin 2 0) pianist) (Byte 64) ≡ Note 1 64 1 Stolen
pedal_note-foretold =
    d4-goes (after Live (begin 2 0) pianist) (by_answers Live [] (begin 2 0) pianist) before_e4
    (foretold-at Live (begin 2 0) pianist (Byte 64) [] (who_loses 2 0 (pianist ++ (Byte 64 ∷ []))))

-- and by the other half alone, whatever the answer calls it, C4 is not the one
pub key_not_stolen : (v : Was) → Live.answer (after Live (begin 2 0) pianist) (Byte 64) ≡ Note 1 64 0 v → ⊥
key_not_stolen =
    c4-stays (after Live (begin 2 0) pianist) (by_answers Live [] (begin 2 0) pianist) before_e4
    (pedal_first-at Live (begin 2 0) pianist (Byte 64) [] (who_loses 2 0 (pianist ++ (Byte 64 ∷ []))))

-- ---- runs that bring a drum along: nothing is forgotten where they start

abbrev pub first_drum : List Event
first_drum = Byte 0x99 ∷ Byte 36 ∷ Byte 64 ∷ []

-- P 1: the drum has the only generator, and a note on channel 1 finds none; whatever is done, the drum isn't stolen
abbrev no_room : Both
no_room = after Live (begin 1 0) (first_drum ++ (Byte 0x90 ∷ Byte 60 ∷ []))

pub drum_kept : is_of 10 (stolen_note no_room.book 1 60 (Live.answer no_room (Byte 64))) ≡ false
unfolding up_to total filter_by first_of padded begun stored one_data_byte completed data_byte opened
    ended status_byte split decode table_of start_table shares_from lookup share_of group_of excludes ages_of
    newest assigned silent changes state_after changed is_among leaves silenced lowest_idle cleared
    choice note_on fresh is_rhythm play_note_on played started heard byte_taken taken keep_message keep after
drum_kept =
    ((demand_3 1 0 (first_drum ++ (Byte 0x90 ∷ Byte 60 ∷ Byte 64 ∷ Report 0 ∷ []))).shared first_drum
    (Byte 0x90 ∷ Byte 60 ∷ Byte 64 ∷ []) (Report 0 ∷ []) refl (tt, (tt, (tt, tt)))
    10 (1-of-1, (tt, (tt, ((λ e. absurd (1-not-10 e)), tt))))).1.1.0.1

-- P 2: channel 1 takes the second generator, and then channel 10 wants a second drum, which with the first is all of
-- its share; it is served
abbrev all_taken : Both
all_taken = after Live (begin 2 0) (first_drum ++ (Byte 0x90 ∷ Byte 60 ∷ Byte 64 ∷ Byte 0x99 ∷ Byte 38 ∷ []))

abbrev pub run : List Event
run = Byte 0x90 ∷ Byte 60 ∷ Byte 64 ∷ Byte 0x99 ∷ Byte 38 ∷ Byte 64 ∷ []

pub second_drum_served : is_served 10 38 (Live.answer all_taken (Byte 64)) ≡ true
unfolding up_to total filter_by first_of padded begun stored one_data_byte completed data_byte opened
    ended status_byte split decode table_of start_table shares_from lookup share_of group_of excludes ages_of
    newest assigned silent changes state_after changed is_among leaves silenced lowest_idle cleared
    choice note_on fresh is_rhythm play_note_on played started heard byte_taken taken keep_message keep after
second_drum_served =
    ((demand_3 2 0 (first_drum ++ (run ++ (Report 0 ∷ [])))).shared first_drum run
    (Report 0 ∷ []) refl (tt, (tt, (tt, (tt, (tt, (tt, tt)))))) 10
    (1-of-2, (tt, (tt, ((λ e. absurd (1-not-10 e)), (tt, (tt, ((λ e. 2-of-2), tt)))))))).1.1.1.1.1.0.0 refl

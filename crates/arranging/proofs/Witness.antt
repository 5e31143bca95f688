-- The definition bites: what small logs come to, worked out on paper and computed here.
-- Assumes nothing.
use mathlib.Core.Path.{◌≡◌, refl}
use mathlib.Core.List.{List, [], ◌∷◌, ◌++◌}
use Prim.Native.Nat.{ℕ}
use lib.ListN.{replicate}
use Rattle.loops.specs.Passes.{up_to, total, filter_by, first_of, count, padded}
use Rattle.splitter.specs.Split.{begun, stored, one_data_byte, completed, data_byte, opened, ended, status_byte, split}
use Rattle.message.specs.Message.{decode}
use Rattle.table.specs.Table.{table_of, start_table, listed}
use Rattle.shares.specs.Shares.{shares_from, lookup, share_of}
use Rattle.sysex.specs.SysEx.{is_mip, is_system_on, kind_of}
use Rattle.mip.specs.Mip.{pairs, faulty, judged}
use Rattle.drums.specs.Drums.{group_of, excludes}
use Rattle.ages.specs.Ages.{ages_of, newest}
use Rattle.generators.specs.Generators.{assigned, silent}
use Rattle.releases.specs.Releases.{changes, state_after, changed}
use Rattle.silence.specs.Silence.{is_among, leaves, silenced}
use Rattle.candidates.specs.Candidates.{lowest_idle, wanted, oldest, busy_count}
use Rattle.stealing.specs.Stealing.{over_share, steal_from, victim}
use Rattle.allocation.specs.Allocation.{cleared, choice, note_on}
use Rattle.instrument.specs.Instrument.{fresh, is_rhythm}
use Rattle.masking.specs.Masking.{masked}
use Rattle.playing.specs.Playing.{play_note_on, played}
use Rattle.exclusive.specs.Exclusive.{new_table, mip_taken, exclusive}
use Rattle.device.specs.Device.{started, heard, byte_taken}
use Rattle.events.specs.declared.Event.{Event}
use Rattle.events.specs.declared.Event.TheVariants.{Byte, Report}
use Rattle.events.specs.Events.{report_taken, taken}
use Rattle.reports.specs.Reports.{reported}
use Rattle.event_line.specs.Log.{blank, put, decimal, line_of, loggable, event_of, lines_from}
use Rattle.order.specs.Order.{each, is_order, order_of}
use Rattle.joint.specs.Joint.{busy_on, raised}
use Rattle.arranging.specs.Run.{event_played, line_played, byte_heard, heard as part-heard}
use Rattle.arranging.specs.Run.{begun_by, begun as log-begun, ended_by, finished}
use Rattle.arranging.specs.Arranging.{ends_mip, loses_note, spoils, at_line, fault, behind_line, looked_at, after_line}
use Rattle.arranging.specs.Arranging.{records, largest, values, pair_bytes, mip_message, whole, refused, message}

-- the channels as they are numbered
abbrev pub one_to_sixteen : List ℕ
one_to_sixteen = 1 ∷ 2 ∷ 3 ∷ 4 ∷ 5 ∷ 6 ∷ 7 ∷ 8 ∷ 9 ∷ 10 ∷ 11 ∷ 12 ∷ 13 ∷ 14 ∷ 15 ∷ 16 ∷ []

-- a line for each event
abbrev pub log : List Event → List ℕ
log [] = []
log (e ∷ l) = line_of e ++ log l

-- a note of channel 1 that ends, and then one of channel 2: together they are one at a time
pub in_turn : message one_to_sixteen
    (log (Byte 0x90 ∷ Byte 60 ∷ Byte 64 ∷ Report 0 ∷ Byte 0x91 ∷ Byte 60 ∷ Byte 64 ∷ []))
    ≡ whole one_to_sixteen (replicate 16 1) 7
unfolding up_to total filter_by first_of count padded begun stored one_data_byte completed data_byte opened
    ended status_byte split decode table_of start_table listed shares_from lookup share_of is_mip is_system_on
    kind_of pairs faulty judged group_of excludes ages_of newest assigned silent changes state_after changed
    is_among leaves silenced lowest_idle wanted oldest busy_count over_share steal_from victim cleared choice
    note_on fresh is_rhythm masked play_note_on played started new_table mip_taken exclusive heard byte_taken taken
    report_taken reported decimal line_of loggable event_of lines_from each is_order busy_on ends_mip loses_note
    spoils at_line fault behind_line looked_at after_line records largest values pair_bytes mip_message message
in_turn = refl

-- a note, and a System On: the device is fresh again, and the values stay. By bytes, as the code has it
pub stays_at_system_on : finished (part-heard (log-begun one_to_sixteen)
    (log (Byte 0x90 ∷ Byte 60 ∷ Byte 64 ∷ Byte 0xF0 ∷ Byte 0x7E ∷ Byte 0x7F ∷ Byte 0x09 ∷ Byte 0x01 ∷ Byte 0xF7 ∷ [])))
    ≡ whole one_to_sixteen (replicate 16 1) 9
unfolding up_to total filter_by first_of count padded begun stored one_data_byte completed data_byte opened ended
    status_byte split decode table_of start_table listed shares_from lookup share_of is_mip is_system_on kind_of
    pairs faulty judged group_of excludes ages_of newest assigned silent changes state_after changed is_among leaves
    silenced lowest_idle wanted oldest busy_count over_share steal_from victim cleared choice note_on fresh
    is_rhythm masked play_note_on played started new_table mip_taken exclusive heard byte_taken taken report_taken
    reported decimal line_of loggable event_of lines_from each is_order busy_on ends_mip loses_note spoils at_line
    fault behind_line looked_at after_line records largest values pair_bytes mip_message message order_of raised
    blank put finished ended_by part-heard byte_heard line_played event_played begun_by
stays_at_system_on = refl

-- a MIP message for ID 0, without pairs, up to its last byte
abbrev mip : Event → List ℕ
mip e = log (Byte 0xF0 ∷ Byte 0x7F ∷ Byte 0x00 ∷ Byte 0x0B ∷ Byte 0x01 ∷ e ∷ [])

-- a MIP message for ID 0 that a status cuts has not ended; one that its F7 ends has, and without pairs too; then a line
-- of another form is too late, and before it it isn't
pub cut : message one_to_sixteen (mip (Byte 0x90)) ≡ whole one_to_sixteen (replicate 16 0) 6
unfolding up_to first_of count begun stored one_data_byte data_byte opened ended status_byte split is_mip is_system_on
    kind_of silent started fresh heard byte_taken taken decimal line_of loggable event_of lines_from each is_order total
    busy_on ends_mip loses_note spoils at_line fault behind_line looked_at after_line records largest values message
cut = refl

pub ended_17 : message one_to_sixteen (mip (Byte 0xF7)) ≡ refused 17 6
unfolding up_to first_of count begun stored one_data_byte data_byte opened ended status_byte split is_mip is_system_on
    kind_of silent started fresh heard byte_taken taken decimal line_of loggable event_of lines_from each is_order total
    busy_on ends_mip loses_note spoils at_line fault behind_line looked_at after_line records largest values message
ended_17 = refl

pub later_15 : message one_to_sixteen (mip (Byte 0xF7) ++ (0x0A ∷ [])) ≡ refused 17 6
unfolding up_to first_of count begun stored one_data_byte data_byte opened ended status_byte split is_mip is_system_on
    kind_of silent started fresh heard byte_taken taken decimal line_of loggable event_of lines_from each is_order total
    busy_on ends_mip loses_note spoils at_line fault behind_line looked_at after_line records largest values message
later_15 = refl

pub earlier_15 : message one_to_sixteen (0x0A ∷ mip (Byte 0xF7)) ≡ refused 15 1
unfolding up_to first_of count begun stored one_data_byte data_byte opened ended status_byte split is_mip is_system_on
    kind_of silent started fresh heard byte_taken taken decimal line_of loggable event_of lines_from each is_order total
    busy_on ends_mip loses_note spoils at_line fault behind_line looked_at after_line records largest values message
earlier_15 = refl

-- a log that is faulty, and no order
pub order_first : message [] (0x0A ∷ []) ≡ refused 16 0
unfolding count each is_order message
order_first = refl

-- beside a number, and in front of the pairs
pub zeros : ((refused 15 1).bytes ≡ replicate 38 0) × ((refused 15 1).number ≡ 15) × ((refused 15 1).line ≡ 1)
zeros = (refl, refl, refl)

pub to_all_devices : mip_message [] ≡ 0xF0 ∷ 0x7F ∷ 0x7F ∷ 0x0B ∷ 0x01 ∷ 0xF7 ∷ []
unfolding pair_bytes mip_message
to_all_devices = refl

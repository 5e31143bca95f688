-- The MIP message of a song's log (section 14 of docs/RULES.md), for a log as a whole.
-- Assumes nothing.
use Rattle.std.specs.Prelude.{ℕ, ◌+◌, ◌-◌, Bool, true, false, ◌&&◌, ◌||◌, List, [], ◌∷◌, ◌++◌, eqb, replicate, if◌then◌else◌}
use Rattle.std.proofs.Math.Option.{Option, some, none}
use Rattle.loops.specs.Cases.{at_most}
use Rattle.loops.specs.Passes.{up_to}
use Rattle.refusals.specs.Refusals.{number}
use Rattle.splitter.specs.declared.Completed.{Completed}
use Rattle.splitter.specs.declared.Completed.TheVariants as completed
use Rattle.splitter.specs.Split.{body, split}
use Rattle.table.specs.declared.Entry.{Entry}
use Rattle.table.specs.Table.{entry}
use Rattle.sysex.specs.SysEx.{is_mip}
use Rattle.allocation.specs.Allocation.{is_stolen}
use Rattle.playing.specs.declared.Answer.{Answer}
use Rattle.playing.specs.declared.Answer.TheVariants as answer
use Rattle.device.specs.declared.Device.{Device}
use Rattle.device.specs.Device.{started}
use Rattle.events.specs.declared.Event.{Event}
use Rattle.events.specs.declared.Event.TheVariants.{Byte, Report}
use Rattle.events.specs.Events.{taken}
use Rattle.event_line.specs.Log.{event_of, lines_of}
use Rattle.order.specs.Order.{is_order}
use Rattle.joint.specs.Joint.{larger, joint_count}
use Rattle.arranging.specs.declared.Written.{Written}

-- ---- what a line comes to

-- R14.2: the device that the log is played on
abbrev pub fresh : Device
fresh = (started 64 0).device

abbrev pub is_sys_ex : Completed → Bool
is_sys_ex completed.Nothing = false
is_sys_ex completed.Stray = false
is_sys_ex completed.Cut = false
is_sys_ex (completed.Message s a b) = false
is_sys_ex completed.SysEx = true

-- R14.6: a MIP message for 7F or 0 ends, accepted or not: its bytes are those of the parser that the F7 finds
unfoldable pub ends_mip : Device → Event → Bool
ends_mip d (Byte b) = is_sys_ex (split d.parser b).completed && is_mip 0 (body d.parser)
ends_mip d (Report g) = false

-- R14.6: a note is lost, an older one by theft or the new one by number 11
unfoldable pub loses_note : Answer → Bool
loses_note answer.Nothing = false
loses_note answer.Done = false
loses_note (answer.Note c k g w) = is_stolen w
loses_note (answer.NoNote r c k) = eqb (number r) 11
loses_note (answer.Number r) = eqb (number r) 11

-- R8.17: number 17 falls at the line of this event; R14.2: any other answer is passed over
unfoldable pub spoils : Device → Event → Bool
spoils d e = ends_mip d e || loses_note (taken d e).answer

-- ---- what a log comes to

-- at a line: 15, 17, or what the lines behind it give with the record after it
unfoldable pub at_line : Device → (Device → Option ℕ) → Option Event → Option ℕ
at_line d behind none = some 15
at_line d behind (some e) = if spoils d e then some 17 else behind (taken d e).device

-- R8.15, R8.17: the number that a log's lines give, if any; R14.6: the earlier line decides
unfoldable pub fault : Device → List (List ℕ) → Option ℕ
fault d [] = none
fault d (l ∷ ls) = at_line d (λ r. fault r ls) (event_of l)

-- how many lines are looked at: up to the one where the number falls, or all
unfoldable pub behind_line : Device → (Device → ℕ) → Option Event → ℕ
behind_line d behind none = 0
behind_line d behind (some e) = if spoils d e then 0 else behind (taken d e).device

unfoldable pub looked_at : Device → List (List ℕ) → ℕ
looked_at d [] = 0
looked_at d (l ∷ ls) = 1 + behind_line d (λ r. looked_at r ls) (event_of l)

-- the record after a line, and after each line of a log; a line of another form, where no message is written, leaves it
unfoldable pub after_line : Device → Option Event → Device
after_line d none = d
after_line d (some e) = (taken d e).device

unfoldable pub records : Device → List (List ℕ) → List Device
records d [] = []
records d (l ∷ ls) = after_line d (event_of l) ∷ records (after_line d (event_of l)) ls

-- ---- the values

-- the largest of a list, 0 for none
unfoldable pub largest : {A : Type 0} → (A → ℕ) → List A → ℕ
largest f [] = 0
largest f (x ∷ l) = larger (f x) (largest f l)

-- R14.5: the busy generators of a record on the channel at place k of the order, from 0, and on those before it
abbrev pub joint : List ℕ → ℕ → Device → ℕ
joint order k d = joint_count order d.instrument.generators k

-- R14.5: the largest such number after any line
unfoldable pub values : List ℕ → List Device → List ℕ
values order ds = up_to (λ k. largest (joint order k) ds) 16

-- ---- the message

-- a channel with its value, by falling priority
abbrev pub listing : List ℕ → List ℕ → List Entry
listing [] vs = []
listing (c ∷ l) [] = []
listing (c ∷ l) (v ∷ vs) = entry c v ∷ listing l vs

-- R3.1: a pair is the channel minus 1 and its value
unfoldable pub pair_bytes : List Entry → List ℕ
pair_bytes [] = []
pair_bytes (e ∷ l) = (e.channel - 1) ∷ e.value ∷ pair_bytes l

-- R14.4: the message, for every device: d is 7F
unfoldable pub mip_message : List Entry → List ℕ
mip_message l = 0xF0 ∷ 0x7F ∷ 0x7F ∷ 0x0B ∷ 0x01 ∷ (pair_bytes l ++ (0xF7 ∷ []))

-- R14.9: a line as it is told: one above 2 to the power 64, less 1, as that
abbrev pub told : ℕ → ℕ
told n = at_most 18446744073709551615 n

abbrev pub whole : List ℕ → List ℕ → ℕ → Written
whole order most line = record { line = line; number = 0; bytes = mip_message (listing order most) }

-- R14.9: beside a number stand 38 zeros
abbrev pub refused : ℕ → ℕ → Written
refused n line = record { line = line; number = n; bytes = replicate 38 0 }

abbrev pub written_by : List ℕ → List Device → ℕ → Option ℕ → Written
written_by order ds line none = whole order (values order ds) line
written_by order ds line (some n) = refused n line

-- the message of a log; R8.16: the order is looked at before the log
unfoldable pub message : List ℕ → List ℕ → Written
message order log =
    if is_order order
    then written_by order (records fresh (lines_of log)) (told (looked_at fresh (lines_of log))) (fault fresh (lines_of log))
    else refused 16 0

-- What holds of every message that is written: the words of the laws in proofs/Message.antt.
-- Assumes nothing.
use Rattle.std.specs.Prelude.{ℕ, ◌-◌, ◌≤◌, ◌<◌, ◌≡◌, List, [], ◌∷◌, map, length, get_or, replicate}
use Rattle.std.proofs.Math.Option.{some}
use Rattle.table.specs.declared.Entry.{Entry}
use Rattle.table.specs.Table.{entries_of}
use Rattle.playing.specs.declared.Answer.TheVariants as answer
use Rattle.playing.specs.Playing.{number_of}
use Rattle.device.specs.declared.Device.{Device}
use Rattle.device.specs.declared.Output.{Output}
use Rattle.device.specs.Device.{byte_taken}
use Rattle.events.specs.declared.Event.{Event}
use Rattle.events.specs.Events.{taken}
use Rattle.event_line.specs.Log.{event_of, lines_of}
use Rattle.arranging.specs.declared.Run.{Run}
use Rattle.arranging.specs.Arranging.{fresh, records, joint, values, message}
use Rattle.arranging.specs.Run.{heard, joined, begun, finished}

-- ---- our reader

-- the output of the last of some bytes, behind an output of any device
unfoldable pub fed : Output → List ℕ → Output
fed o [] = o
fed o (b ∷ l) = fed (byte_taken o.device b) l

-- the values of a log, and the record after its line j, from 0
abbrev pub values_of : List ℕ → List ℕ → List ℕ
values_of order log = values order (records fresh (lines_of log))

abbrev pub record_after : List ℕ → ℕ → Device
record_after log j = get_or (records fresh (lines_of log)) j fresh

-- R14.7: what a device answers to the last byte of a message, and its table then
pub record GivenBack (order log : List ℕ) (o : Output) : Type 0 where
  pub answer : o.answer ≡ answer.Done
  pub same_order : map (λ (e : Entry). e.channel) (entries_of o.device.instrument.table) ≡ order
  pub same-values : map (λ (e : Entry). e.value) (entries_of o.device.instrument.table) ≡ values_of order log

-- every message that is written, and every device: any P, own ID, table, notes and parser, an open SysEx among them
abbrev pub ReaderTakes : Type 0
ReaderTakes =
    (order log : List ℕ) → (message order log).number ≡ 0
    → (o : Output) → GivenBack order log (fed o (message order log).bytes)

-- ---- the values

-- R14.8, of the value at place k of the order: no line exceeds it, and with one less some line would
pub record Tight (order log : List ℕ) (k : ℕ) : Type 0 where
  pub enough : (j : ℕ) → j < length (lines_of log)
      → joint order k (record_after log j) ≤ get_or (values_of order log) k 0
  pub needed : 0 < get_or (values_of order log) k 0
      → (j : ℕ) × ((j < length (lines_of log))
      × (get_or (values_of order log) k 0 - 1 < joint order k (record_after log j)))

abbrev pub AllTight : Type 0
AllTight = (order log : List ℕ) (k : ℕ) → k < 16 → Tight order log k

-- ---- the numbers

-- R14.9: beside a number stand 38 zeros
abbrev pub ZerosBeside : Type 0
ZerosBeside = (order log : List ℕ) → ((message order log).number ≡ 0 → ⊥) → (message order log).bytes ≡ replicate 38 0

-- the record that line j finds, from 0
abbrev pub record_before : List ℕ → ℕ → Device
record_before log j = get_or (fresh ∷ records fresh (lines_of log)) j fresh

-- R14.2, R14.6: numbers below 11 and 13 are passed over and 11 ends the log; no other number falls in a log, 12 least
-- of all
abbrev pub NoOtherNumber : Type 0
NoOtherNumber =
    (log : List ℕ) (j : ℕ) (e : Event) (n : ℕ) → j < length (lines_of log)
    → event_of (get_or (lines_of log) j []) ≡ some e
    → number_of (taken (record_before log j) e).answer ≡ some n → (n ≡ 13 → ⊥) → n ≤ 11

-- ---- a log in parts

abbrev pub heard_parts : Run → List (List ℕ) → Run
heard_parts r [] = r
heard_parts r (p ∷ ps) = heard_parts (heard r p) ps

-- R14.10: however a log is cut into parts, they come to the message of the whole
abbrev pub PartsMakeNoDifference : Type 0
PartsMakeNoDifference =
    (order : List ℕ) (ps : List (List ℕ)) → finished (heard_parts (begun order) ps) ≡ message order (joined ps)

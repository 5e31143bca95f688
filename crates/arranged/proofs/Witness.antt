-- The claims bite. First their words: a claim or a clause that is narrowed or emptied behind its name would not give
-- these facts. Then one log of which all of them speak.
-- Assumes nothing.
use mathlib.Core.Path.{◌≡◌, refl, ap}
use mathlib.Core.List.{List, [], ◌∷◌, map}
use mathlib.Core.Option.{some}
use Prim.Native.Nat.{ℕ, suc, ◌-◌, ◌≤◌, ◌<◌}
use lib.ListN.{length, get_or, replicate}
use Rattle.table.specs.declared.Entry.{Entry}
use Rattle.table.specs.Table.{entries_of}
use Rattle.playing.specs.declared.Answer.TheVariants as answer
use Rattle.playing.specs.Playing.{number_of}
use Rattle.device.specs.declared.Output.{Output}
use Rattle.device.specs.Device.{byte_taken}
use Rattle.events.specs.declared.Event.{Event}
use Rattle.events.specs.declared.Event.TheVariants.{Byte, Report}
use Rattle.events.specs.Events.{taken}
use Rattle.event_line.specs.Log.{event_of, lines_of}
use Rattle.arranging.specs.declared.Run.{Run}
use Rattle.arranging.specs.declared.Written.{Written}
use Rattle.arranging.specs.Arranging.{fresh, records, joint, values, message}
use Rattle.arranging.specs.Run.{heard, joined, begun, finished}
use Rattle.arranging.proofs.Witness.{one_to_sixteen, log, in_turn}
use Rattle.arranged.specs.Laws.{fed, values_of, record_after, GivenBack, ReaderTakes, Tight, AllTight}
use Rattle.arranged.specs.Laws.{ZerosBeside, record_before, NoOtherNumber, heard_parts, PartsMakeNoDifference}
use Rattle.arranged.proofs.Message.{given_back}

-- ---- the words

module _ (order l : List ℕ) (o : Output) (h : GivenBack order l o) where
  pub answered-done : o.answer ≡ answer.Done
  answered-done = h.answer

  pub order_back : map (λ (e : Entry). e.channel) (entries_of o.device.instrument.table) ≡ order
  order_back = h.same_order

  pub values_back : map (λ (e : Entry). e.value) (entries_of o.device.instrument.table) ≡ values_of order l
  values_back = h.same-values

module _ (order l : List ℕ) (k : ℕ) (h : Tight order l k) where
  pub never_exceeded : (j : ℕ) → j < length (lines_of l)
      → joint order k (record_after l j) ≤ get_or (values_of order l) k 0
  never_exceeded = h.enough

  pub exceeded_if_lower : 0 < get_or (values_of order l) k 0
      → (j : ℕ) × ((j < length (lines_of l)) × (get_or (values_of order l) k 0 - 1 < joint order k (record_after l j)))
  exceeded_if_lower = h.needed

-- the words that they are said with: bytes go to the device they are given, one after another; parts go one after
-- another; line j finds what the line before it left; a log's values and records are those of its lines
pub fed_on : (o : Output) (a b : ℕ) → fed o (a ∷ b ∷ []) ≡ byte_taken (byte_taken o.device a).device b
unfolding fed
fed_on o a b = refl

pub part_by_part : (r : Run) (p q : List ℕ) → heard_parts r (p ∷ q ∷ []) ≡ heard (heard r p) q
part_by_part r p q = refl

pub found-fresh : (l : List ℕ) → record_before l 0 ≡ fresh
found-fresh l = refl

pub found_after : (l : List ℕ) (j : ℕ) → record_before l (suc j) ≡ record_after l j
found_after l j = refl

pub record_after_lem : (l : List ℕ) (j : ℕ) → record_after l j ≡ get_or (records fresh (lines_of l)) j fresh
record_after_lem l j = refl

pub values_of_lem : (order l : List ℕ) → values_of order l ≡ values order (records fresh (lines_of l))
values_of_lem order l = refl

-- every message and every device, every place of the order, every number, every line, every way to cut
pub every_device : ReaderTakes → (order l : List ℕ) → (message order l).number ≡ 0
    → (o : Output) → GivenBack order l (fed o (message order l).bytes)
every_device h = h

pub every_place : AllTight → (order l : List ℕ) (k : ℕ) → k < 16 → Tight order l k
every_place h = h

pub every_number : ZerosBeside → (order l : List ℕ)
    → ((message order l).number ≡ 0 → ⊥) → (message order l).bytes ≡ replicate 38 0
every_number h = h

pub every_line : NoOtherNumber → (l : List ℕ) (j : ℕ) (e : Event) (n : ℕ)
    → j < length (lines_of l) → event_of (get_or (lines_of l) j []) ≡ some e
    → number_of (taken (record_before l j) e).answer ≡ some n → (n ≡ 13 → ⊥) → n ≤ 11
every_line h = h

pub every_cut : PartsMakeNoDifference → (order : List ℕ) (ps : List (List ℕ))
    → finished (heard_parts (begun order) ps) ≡ message order (joined ps)
every_cut h = h

-- ---- from the claims alone

-- a note of channel 1 and, when it has ended, one of channel 2: its message has values above 0, and every device takes
-- it, whatever it does
abbrev pub in_turns : List ℕ
in_turns = log (Byte 0x90 ∷ Byte 60 ∷ Byte 64 ∷ Report 0 ∷ Byte 0x91 ∷ Byte 60 ∷ Byte 64 ∷ [])

pub taken_anywhere : (o : Output) → GivenBack one_to_sixteen in_turns (fed o (message one_to_sixteen in_turns).bytes)
taken_anywhere o = given_back one_to_sixteen in_turns (ap (λ (w : Written). w.number) in_turn) o

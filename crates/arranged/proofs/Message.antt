-- The laws of a message that is written: 38 bytes, which every device takes and gives back, with values that no line
-- exceeds and some line reaches; and 38 zero bytes beside a number.
-- Assumes nothing.
use Rattle.std.specs.Prelude.{if◌then◌else◌}
use mathlib.Core.Path.{◌≡◌, refl, sym, ap, ◌∙◌}
use mathlib.Core.Bool.{Bool, true, false}
use mathlib.Core.List.{List, [], ◌∷◌, map}
use mathlib.Core.Option.{Option, some, none}
use Prim.Native.Nat.{ℕ}
use native.Mathlib.Omega.{arith}
use lib.ListN.{length, replicate}
use Rattle.loops.proofs.Fill.{length-up_to}
use Rattle.loops.proofs.Tests.{impossible}
use Rattle.table.specs.declared.Entry.{Entry}
use Rattle.device.specs.declared.Device.{Device}
use Rattle.events.specs.declared.Event.{Event}
use Rattle.events.specs.Events.{taken}
use Rattle.event_line.specs.Log.{event_of, lines_of}
use Rattle.order.specs.Order.{is_order}
use Rattle.order.proofs.Once.{order_holds}
use Rattle.arranging.specs.declared.Written.{Written}
use Rattle.arranging.specs.Arranging.{fresh, spoils, at_line, fault, looked_at, records, values}
use Rattle.arranging.specs.Arranging.{listing, mip_message, told, refused, written_by, message}
use Rattle.arranging.specs.declared.Run.{Run}
use Rattle.arranging.specs.Run.{heard, joined, begun, finished}
use Rattle.arranging.proofs.Bytes.{message-length}
use Rattle.arranging.proofs.Parts.{heard-append, parts}
use Rattle.arranged.specs.Laws.{values_of, ReaderTakes, AllTight, ZerosBeside, heard_parts, PartsMakeNoDifference}
use Rattle.arranged.proofs.Reader.{reader_takes}
use Rattle.arranged.proofs.Tight.{never_above, tight}

values_16 : (order : List ℕ) (ds : List Device) → length (values order ds) ≡ 16
unfolding values
values_16 order ds = length-up_to _ 16

-- a message is written for an order only, and is that of the order and the values
record Whole' (order log : List ℕ) : Type 0 where
  ordered : is_order order ≡ true
  bytes : (message order log).bytes ≡ mip_message (listing order (values_of order log))

-- which number a log without an order, or with a faulty line, is answered
abbrev wrote : List ℕ → List ℕ → Bool → Option ℕ → Written
wrote order log b o =
    if b then written_by order (records fresh (lines_of log)) (told (looked_at fresh (lines_of log))) o
    else refused 16 0

fault_above : (d : Device) (ls : List (List ℕ)) (n : ℕ) → fault d ls ≡ some n → n ≡ 0 → ⊥
unfolding fault at_line
fault_above d [] n h k = impossible (cc)
fault_above d (l ∷ ls) n h k = at (event_of l) (λ r q. fault_above r ls n q k) h
  where
    at : (o : Option Event) → ((r : Device) → fault r ls ≡ some n → ⊥) → at_line d (λ r. fault r ls) o ≡ some n → ⊥
    at none ih h = let e : ◌≡◌ {A = ℕ} 15 n = cc in omega arith
    at (some e) ih h = go (spoils d e) h
      where
        go : (t : Bool) → (if t then some 17 else fault (taken d e).device ls) ≡ some n → ⊥
        go true h = let q : ◌≡◌ {A = ℕ} 17 n = cc in omega arith
        go false h = ih (taken d e).device h

whole : (order log : List ℕ) → (message order log).number ≡ 0 → Whole' order log
unfolding message
whole order log h = go (is_order order) refl (fault fresh (lines_of log)) refl h
  where
    go : (b : Bool) → is_order order ≡ b → (o : Option ℕ) → fault fresh (lines_of log) ≡ o
        → (wrote order log b o).number ≡ 0 → Whole' order log
    go true p none q h = record { ordered = p; bytes = rw (p, q) }
    go true p (some n) q h = absurd (fault_above fresh (lines_of log) n q h)
    go false p o q h = absurd (omega arith)

channels_back : (l vs : List ℕ) → length l ≡ length vs → map (λ (e : Entry). e.channel) (listing l vs) ≡ l
channels_back [] vs h = refl
channels_back (c ∷ l) [] h = absurd (omega arith)
channels_back (c ∷ l) (v ∷ vs) h = ap (λ (r : List ℕ). c ∷ r) (channels_back l vs (omega arith))

values_back : (l vs : List ℕ) → length l ≡ length vs → map (λ (e : Entry). e.value) (listing l vs) ≡ vs
values_back [] [] h = refl
values_back [] (v ∷ vs) h = absurd (omega arith)
values_back (c ∷ l) [] h = absurd (omega arith)
values_back (c ∷ l) (v ∷ vs) h = ap (λ (r : List ℕ). v ∷ r) (values_back l vs (omega arith))

-- R14.7: whatever the device answered last, and whatever its record, of any P, own ID, table, notes and parser
pub given_back : ReaderTakes
given_back order log h o =
    let w = whole order log h in
    let t = reader_takes order (records fresh (lines_of log)) w.ordered o in
    let n : length order ≡ length (values_of order log) =
    (order_holds order w.ordered).size ∙ sym (values_16 order (records fresh (lines_of log))) in
    rw w.bytes (record {
      answer = t.answer;
      same_order = ap (map (λ (e : Entry). e.channel)) t.entries ∙ channels_back order (values_of order log) n;
      same-values = ap (map (λ (e : Entry). e.value)) t.entries ∙ values_back order (values_of order log) n;
    })

pub values_tight : AllTight
values_tight order log k h = record { enough = λ j s. never_above order log k j h s; needed = tight order log k h }

pub bytes_38 : (order log : List ℕ) → (message order log).number ≡ 0 → length (message order log).bytes ≡ 38
bytes_38 order log h =
    let w = whole order log h in
    ap length w.bytes ∙ message-length order (values_of order log)
    (order_holds order w.ordered).size (values_16 order (records fresh (lines_of log)))

pub zeros_beside : ZerosBeside
unfolding message
zeros_beside order log h = go (is_order order) (fault fresh (lines_of log)) h
  where
    go : (b : Bool) (o : Option ℕ) → ((wrote order log b o).number ≡ 0 → ⊥)
        → (wrote order log b o).bytes ≡ replicate 38 0
    go true none h = absurd (h refl)
    go true (some m) h = refl
    go false o h = refl

-- two parts are one, and so are many
heard_parts_lem : (r : Run) (ps : List (List ℕ)) → heard_parts r ps ≡ heard r (joined ps)
unfolding heard
heard_parts_lem r [] = refl
heard_parts_lem r (p ∷ ps) = heard_parts_lem (heard r p) ps ∙ sym (heard-append r p (joined ps))

pub any_parts : PartsMakeNoDifference
any_parts order ps = ap finished (heard_parts_lem (begun order) ps) ∙ parts order (joined ps)

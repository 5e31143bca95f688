-- R14.7: whatever record the message finds, F0 opens a SysEx, 36 data bytes fill it, and the F7 finds a MIP message
-- for us without fault.
-- Assumes nothing.
use Rattle.std.specs.Prelude.{Ok, if◌then◌else◌}
use mathlib.Core.Path.{◌≡◌, refl, sym, ap, ◌∙◌}
use mathlib.Core.Bool.{Bool, true, false, ◌||◌}
use mathlib.Core.List.{List, [], ◌∷◌, ◌++◌}
use mathlib.Core.Option.{none}
use Prim.Native.Nat.{ℕ, zero, suc, ◌+◌, ◌-◌, ◌≤◌}
use native.Mathlib.Omega.{arith}
use borrow.Author.Tests.{lt-ltb, le-ltb, le-leb, eqb-false, ne_eqb}
use lib.Dec.{eqb}
use lib.ListN.{length, take}
use lib.Seq.{take_all}
use Rattle.loops.proofs.Tests.{or_left, or_right}
use Rattle.splitter.specs.declared.Parser.{Parser}
use Rattle.splitter.specs.declared.Split.{Split}
use Rattle.splitter.specs.declared.Completed.TheVariants as completed
use Rattle.splitter.specs.Split.{begun, stored, in_sys_ex, body, opened, ended, status_byte, split}
use Rattle.splitter.proofs.Bounds.{bounded_begun, after, DataBytes, none, more, body-after, split_open, stays_open}
use Rattle.table.specs.declared.Entry.{Entry}
use Rattle.table.specs.Table.{entries_of, table_of, listed}
use Rattle.table.specs.Laws.{Rising, Distinct, Channels}
use Rattle.table.proofs.Places.{entries_of-table}
use Rattle.sysex.specs.declared.Kind.TheVariants.{Mip}
use Rattle.sysex.specs.SysEx.{is_mip, kind_of}
use Rattle.mip.specs.Mip.{pairs, faulty, judged}
use Rattle.instrument.specs.declared.Instrument.{Instrument}
use Rattle.playing.specs.declared.Answer.{Answer}
use Rattle.playing.specs.declared.Answer.TheVariants as answer
use Rattle.playing.specs.Playing.{replied}
use Rattle.device.specs.declared.Device.{Device}
use Rattle.device.specs.declared.Output.{Output}
use Rattle.exclusive.specs.Exclusive.{new_table, mip_taken, exclusive}
use Rattle.device.specs.Device.{heard, output_of, byte_taken}
use Rattle.order.specs.Order.{is_order}
use Rattle.order.proofs.Once.{Members, order_holds}
use Rattle.arranging.specs.Arranging.{values, listing, pair_bytes, mip_message}
use Rattle.arranging.proofs.Bytes.{length_bytes, length-listing}
use Rattle.arranged.specs.Laws.{fed}
use Rattle.arranged.proofs.Entries.{distinct, channels}
use Rattle.arranged.proofs.Values.{from, value_of, values_from, length_from, rising, value_grows, value_64}

-- ---- a list without fault

-- none of these channels stands before
abbrev Apart : List Entry → List Entry → Type 0
Apart before [] = Unit {0}
Apart before (e ∷ l) = (listed e.channel before ≡ false) × Apart before l

listed_push : (c : ℕ) (l : List Entry) (e : Entry) → listed c l ≡ false
    → eqb c e.channel ≡ false → listed c (l ++ (e ∷ [])) ≡ false
unfolding listed
listed_push c [] e h k = rw k
listed_push c (x ∷ l) e h k = go (eqb c x.channel) h (λ s. listed_push c l e s k)
  where
    go : (b : Bool) → b || listed c l ≡ false
        → (listed c l ≡ false → listed c (l ++ (e ∷ [])) ≡ false) → b || listed c (l ++ (e ∷ [])) ≡ false
    go true s ih = s
    go false s ih = ih s

apart_push : (before : List Entry) (e : Entry) (l : List Entry)
    → Apart before l → listed e.channel l ≡ false → Apart (before ++ (e ∷ [])) l
unfolding listed
apart_push before e [] a n = tt
apart_push before e (x ∷ l) a n =
    let s = eqb-false e.channel x.channel (or_left (eqb e.channel x.channel) (listed e.channel l) n) in (
      listed_push x.channel before e a.0 (ne_eqb x.channel e.channel (λ q. s (sym q))),
      apart_push before e l a.1 (or_right (eqb e.channel x.channel) (listed e.channel l) n),
    )

faultless : (before : List Entry) (v : ℕ) (l : List Entry) → Rising v l
    → Distinct l → Channels l → Apart before l → faulty before v l ≡ none
unfolding faulty
faultless before v [] r d c a = refl
faultless before v (e ∷ l) r d c a =
    rw (le-ltb 16 e.channel c.0.1, a.0, le-ltb e.value v r.0)
    (faultless (before ++ (e ∷ [])) e.value l r.1 d.1 c.1 (apart_push before e l a.1 d.0))

apart_none : (l : List Entry) → Apart [] l
unfolding listed
apart_none [] = tt
apart_none (e ∷ l) = (refl, apart_none l)

-- ---- the message's bytes

-- the pairs of the bytes are the entries
pairs_bytes : (l : List Entry) → Channels l → pairs (pair_bytes l) ≡ l
unfolding pairs pair_bytes
pairs_bytes [] c = refl
pairs_bytes (e ∷ l) c =
    let k : e.channel - 1 + 1 ≡ e.channel = let h = c.0.0 in omega arith in
    rw (k, pairs_bytes l c.1)

data_bytes : (f : ℕ → ℕ) → ((k : ℕ) → f k ≤ 64) → (l : List ℕ)
    → Members l → (i n : ℕ) → DataBytes (pair_bytes (listing l (from f i n)))
unfolding pair_bytes
data_bytes f h [] m i n = none
data_bytes f h (c ∷ l) m i zero = none
data_bytes f h (c ∷ l) m i (suc n) =
    let a = m.0.1 in
    let b = h i in
    more (lt-ltb (c - 1) 0x80 (omega arith))
    (more (lt-ltb (f i) 0x80 (omega arith)) (data_bytes f h l m.1 (suc i) n))

-- ---- an open SysEx

open_after : (p : Parser) (l : List ℕ) → in_sys_ex p ≡ true → DataBytes l → in_sys_ex (after p l) ≡ true
unfolding after
open_after p [] o none = o
open_after p (b ∷ l) o (more d ds) = ap (λ (s : Split). in_sys_ex (after s.parser l)) (split_open p b o d)
    ∙ open_after (stored p b) l (stays_open p b o) ds

abbrev device_of : Parser → Instrument → Device
device_of p i = record { parser = p; instrument = i }

-- F0 opens a SysEx, whatever was in force, and changes nothing else
opens : (d : Device) → (byte_taken d 0xF0).device ≡ device_of (begun 0xF0) d.instrument
unfolding byte_taken split status_byte opened ended heard
opens d = go (eqb d.parser.status 0xF0)
  where
    go : (t : Bool) → device_of (begun 0xF0)
        (heard d.instrument d.parser (if t then completed.Cut else completed.Nothing)).instrument
        ≡ device_of (begun 0xF0) d.instrument
    go true = refl
    go false = refl

-- data bytes fill it, and change nothing else
fills : (a : Answer) (p : Parser) (i : Instrument) (l : List ℕ) → in_sys_ex p ≡ true → DataBytes l
    → (fed (record { answer = a; device = device_of p i }) l).device ≡ device_of (after p l) i
unfolding fed after byte_taken heard
fills a p i [] o none = refl
fills a p i (b ∷ l) o (more d ds) =
    ap (λ (s : Split). (fed (output_of s.parser (heard i p s.completed)) l).device) (split_open p b o d)
    ∙ fills answer.Nothing (stored p b) i l (stays_open p b o) ds
    ∙ ap (λ (s : Split). device_of (after s.parser l) i) (sym (split_open p b o d))

fed-last : (o : Output) (l : List ℕ) (b : ℕ) → fed o (l ++ (b ∷ [])) ≡ byte_taken (fed o l).device b
unfolding fed
fed-last o [] b = refl
fed-last o (x ∷ l) b = fed-last (byte_taken o.device x) l b

-- F7 ends it
ends : (p : Parser) (i : Instrument) → in_sys_ex p ≡ true
    → byte_taken (device_of p i) 0xF7 ≡ output_of (begun 0) (exclusive i (body p))
unfolding byte_taken split status_byte opened ended heard
ends p i o = rw o

-- ---- what the F7 finds

mip-kind : (id : ℕ) (l : List ℕ) → kind_of id (0x7F ∷ 0x7F ∷ 0x0B ∷ 0x01 ∷ l) ≡ Mip
unfolding kind_of is_mip
mip-kind id l = rw (le-leb 4 (length (0x7F ∷ 0x7F ∷ 0x0B ∷ 0x01 ∷ l)) (omega arith))

judged-whole : (l : List ℕ) → length l ≡ 32 → faulty [] 0 (pairs l) ≡ none
    → judged l ≡ Ok (table_of (pairs l))
unfolding judged
judged-whole l n f = rw (n, f)

taken-whole : (i : Instrument) (l : List ℕ) → length l ≡ 32 → faulty [] 0 (pairs l) ≡ none
    → exclusive i (0x7F ∷ 0x7F ∷ 0x0B ∷ 0x01 ∷ l) ≡ replied answer.Done (new_table i (table_of (pairs l)))
unfolding exclusive mip_taken
taken-whole i l n f = rw (mip-kind i.id l, judged-whole l n f)

-- ---- the law

begun_open : in_sys_ex (begun 0xF0) ≡ true
unfolding begun
begun_open = refl

begun-body : (l : List ℕ) → length l ≤ 37 → take 37 (body (begun 0xF0) ++ l) ≡ l
unfolding begun
begun-body l h = take_all 37 l h

-- a message of entries without fault, all of them data bytes
reads : (o : Output) (es : List Entry) → length es ≡ 16
    → Rising 0 es → Distinct es → Channels es → DataBytes (pair_bytes es)
    → fed o (mip_message es) ≡ output_of (begun 0) (replied answer.Done (new_table o.device.instrument (table_of es)))
unfolding fed mip_message
reads o es n r s c ds =
    let i = o.device.instrument in
    let front : List ℕ = 0x7F ∷ 0x7F ∷ 0x0B ∷ 0x01 ∷ pair_bytes es in
    let small : DataBytes front = more refl (more refl (more refl (more refl ds))) in
    let opened : in_sys_ex (begun 0xF0) ≡ true = begun_open in
    let k : length (pair_bytes es) ≡ 32 = let m = length_bytes es in omega arith in
    let e = pairs_bytes es c in
    let f : faulty [] 0 (pairs (pair_bytes es)) ≡ none = rw e (faultless [] 0 es r s c (apart_none es)) in
    let b : body (after (begun 0xF0) front) ≡ front =
    body-after (begun 0xF0) front (bounded_begun 0xF0) opened small ∙ begun-body front (omega arith) in
    fed-last (byte_taken o.device 0xF0) front 0xF7
    ∙ ap (λ (d : Device). byte_taken
    (fed (record { answer = (byte_taken o.device 0xF0).answer; device = d }) front).device 0xF7) (opens o.device)
    ∙ ap (λ (d : Device). byte_taken d 0xF7)
    (fills (byte_taken o.device 0xF0).answer (begun 0xF0) i front opened small)
    ∙ ends (after (begun 0xF0) front) i (open_after (begun 0xF0) front opened small)
    ∙ ap (λ (l : List ℕ). output_of (begun 0) (exclusive i l)) b
    ∙ ap (output_of (begun 0)) (taken-whole i (pair_bytes es) k f)
    ∙ ap (λ (l : List Entry). output_of (begun 0) (replied answer.Done (new_table i (table_of l)))) e

new_table_lem : (i : Instrument) (es : List Entry) → length es ≤ 16 → entries_of (new_table i (table_of es)).table ≡ es
unfolding new_table
new_table_lem i es h = entries_of-table es h

pub record Taken (o : Output) (es : List Entry) : Type 0 where
  pub answer : o.answer ≡ answer.Done
  pub entries : entries_of o.device.instrument.table ≡ es

-- for every record, and every list of records after lines
pub reader_takes : (order : List ℕ) (ds : List Device) → is_order order ≡ true → (o : Output)
    → Taken (fed o (mip_message (listing order (values order ds)))) (listing order (values order ds))
reader_takes order ds h o =
    let w = order_holds order h in
    let f = value_of order ds in
    let v = values_from order ds in
    let n : length (listing order (from f 0 16)) ≡ 16 =
    length-listing order (from f 0 16) (w.size ∙ sym (length_from f 0 16)) ∙ w.size in
    let c = channels order (from f 0 16) w.channels in
    let d = distinct order (from f 0 16) w.channels (λ c p q. let e = w.once c p q in omega arith) in
    let r = rising f (value_grows order ds) order 0 0 16 (omega arith) in
    let b = data_bytes f (value_64 order ds) order w.channels 0 16 in
    let t = reads o (listing order (from f 0 16)) n r d c b in
    rw v (record {
      answer = ap (λ (x : Output). x.answer) t;
      entries = ap (λ (x : Output). entries_of x.device.instrument.table) t
          ∙ new_table_lem o.device.instrument (listing order (from f 0 16)) (omega arith);
    })

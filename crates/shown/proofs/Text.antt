-- The page's bytes are 17 lines of text, for every record of bytes: each field has characters, since a place is at most
-- 16, a count at most 64, and values and shares fit a byte. And numbers are right_aligned.
-- Assumes nothing.
use Rattle.std.specs.Prelude.{if◌then◌else◌, Option, Some, None}
use Prim.Native.Nat.{ℕ, zero, suc, ◌+◌, ◌-◌, ◌/◌, ◌%◌, ◌≤◌, ◌<◌}
use mathlib.Core.Path.{◌≡◌, refl}
use mathlib.Core.Bool.{Bool, true, false, ◌&&◌}
use mathlib.Core.List.{List, [], ◌∷◌, ◌++◌}
use native.Mathlib.Omega.{arith}
use borrow.Author.Tests.{leb-true, ltb-true, lt-ltb}
use lib.Dec.{eqb, ltb, leb}
use lib.ListN.{length, take}
use Rattle.loops.proofs.Padded.{at_most_le, length-at_most}
use Rattle.loops.proofs.Tests.{and_left, and_right}
use Rattle.loops.proofs.Totals.{total_bits}
use Rattle.table.specs.declared.Entry.{Entry}
use Rattle.table.specs.Table.{entry, entries_of}
use Rattle.shares.specs.Shares.{shares_from, lookup}
use Rattle.generators.specs.declared.Generators.{Generators}
use Rattle.generators.specs.Generators.{at, is_busy_on}
use Rattle.candidates.specs.Candidates.{busy_count}
use Rattle.device.specs.declared.Device.{Device}
use Rattle.event_line.specs.Log.{decimal}
use Rattle.service.specs.declared.Standing.{Standing}
use Rattle.service.specs.Page.{in_two, in_three, standing_from, place_field, value_field}
use Rattle.service.specs.Page.{share_field, mark, head, line, row, page_text}
use Rattle.service.proofs.Lines.{page-length}
use Rattle.shown.specs.Shown.{line_at, Characters, IsLine, Bytes, OfBytes, SeventeenLines, right, RightAligned}
use Rattle.shown.proofs.Fields.{head_at, line_at_lem}

-- ---- numbers

pub right_aligned : RightAligned
unfolding in_two in_three decimal
right_aligned n = (λ h. two (ltb n 10) refl h, λ h. three (ltb n 10) refl (ltb n 100) refl h)
  where
    two : (a : Bool) → ltb n 10 ≡ a → n < 100 → in_two n ≡ right 2 (decimal n)
    two true e h = let s = ltb-true n 10 e in let r : n % 10 ≡ n = omega arith in rw (e, r) refl
    two false e h = rw (e, lt-ltb n 100 h) refl

    three : (a : Bool) → ltb n 10 ≡ a → (b : Bool) → ltb n 100 ≡ b → n < 1000 → in_three n ≡ right 3 (decimal n)
    three true e b f h =
        let s = ltb-true n 10 e in
        let r : n % 10 ≡ n = omega arith in
        rw (e, lt-ltb n 100 (omega arith), r) refl
    three false e true f h = let s = ltb-true n 100 f in let r : n / 10 % 10 ≡ n / 10 = omega arith in rw (e, f, r) refl
    three false e false f h = rw (e, f) refl

-- ---- characters

two_characters : (n : ℕ) → n < 100 → Characters (in_two n)
unfolding in_two
two_characters n h = go (ltb n 10)
  where
    go : (a : Bool) → Characters ((if a then 32 else 48 + n / 10) ∷ (48 + n % 10) ∷ [])
    go true = ((omega arith, omega arith), ((omega arith, omega arith), tt))
    go false = ((omega arith, omega arith), ((omega arith, omega arith), tt))

three_characters : (n : ℕ) → n < 256 → Characters (in_three n)
unfolding in_three
three_characters n h = go (ltb n 100) (ltb n 10)
  where
    go : (a b : Bool)
        → Characters ((if a then 32 else 48 + n / 100) ∷ (if b then 32 else 48 + n / 10 % 10) ∷ (48 + n % 10) ∷ [])
    go true true = ((omega arith, omega arith), ((omega arith, omega arith), ((omega arith, omega arith), tt)))
    go true false = ((omega arith, omega arith), ((omega arith, omega arith), ((omega arith, omega arith), tt)))
    go false true = ((omega arith, omega arith), ((omega arith, omega arith), ((omega arith, omega arith), tt)))
    go false false = ((omega arith, omega arith), ((omega arith, omega arith), ((omega arith, omega arith), tt)))

both : (l m : List ℕ) → Characters l → Characters m → Characters (l ++ m)
both [] m h k = k
both (x ∷ l) m h k = (h.0, both l m h.1 k)

blank : (l : List ℕ) → Characters l → Characters (32 ∷ l)
blank l h = ((omega arith, omega arith), h)

-- ---- the fields of a record of bytes

-- a place and a value, a share, that have room
abbrev Fits : Option Standing → Type 0
Fits (Some s) = (s.place < 100) × (s.value < 256)
Fits None = Unit {0}

abbrev ShareFits : Option ℕ → Type 0
ShareFits None = Unit {0}
ShareFits (Some n) = n < 256

standing_fits : (k c : ℕ) (l : List Entry) → k + length l ≤ 100 → Bytes l → Fits (standing_from k c l)
unfolding standing_from
standing_fits k c [] h b = tt
standing_fits k c (e ∷ l) h b = go (eqb c e.channel) (standing_fits (k + 1) c l (omega arith) b.1)
  where
    go : (t : Bool) → Fits (standing_from (k + 1) c l)
        → Fits (if t then Some (record { place = k; value = e.value }) else standing_from (k + 1) c l)
    go true ih = (omega arith, b.0)
    go false ih = ih

share_fits : (p c v : ℕ) (l : List Entry) → Bytes l → ShareFits (lookup c (shares_from p v l))
unfolding lookup shares_from
share_fits p c v [] b = tt
share_fits p c v (e ∷ l) b = go (leb e.value p) (eqb c e.channel) refl (share_fits p c e.value l b.1)
  where
    small : e.value - v < 256
    small = let k : e.value < 256 = b.0 in omega arith

    go : (t u : Bool) → eqb c e.channel ≡ u → ShareFits (lookup c (shares_from p e.value l))
        → ShareFits (lookup c
        (if t then entry e.channel (e.value - v) ∷ shares_from p e.value l else shares_from p e.value l))
    go true true q ih = rw q small
    go true false q ih = rw q ih
    go false u q ih = ih

place-characters : (at : Option Standing) → Fits at → Characters (place_field at)
place-characters (Some s) h = two_characters s.place h.0
place-characters None h = ((omega arith, omega arith), ((omega arith, omega arith), tt))

value-characters : (at : Option Standing) → Fits at → Characters (value_field at)
value-characters (Some s) h = three_characters s.value h.1
value-characters None h =
    ((omega arith, omega arith), ((omega arith, omega arith), ((omega arith, omega arith), tt)))

share-characters : (s : Option ℕ) → ShareFits s → Characters (share_field s)
share-characters None h = ((omega arith, omega arith), ((omega arith, omega arith), ((omega arith, omega arith), tt)))
share-characters (Some n) h = three_characters n h

mark_character : (s : Option ℕ) → (32 ≤ mark s) × (mark s ≤ 126)
mark_character None = (omega arith, omega arith)
mark_character (Some n) = (omega arith, omega arith)

-- ---- the lines

module _ (c : ℕ) (at : Option Standing) (s : Option ℕ) (busy : ℕ) where
  abbrev text : List ℕ
  text = in_two c ++ 32 ∷ place_field at ++ 32 ∷ value_field at ++ 32 ∷ share_field s ++ 32 ∷ mark s ∷ 32 ∷ in_two busy

  text-length : length text ≡ 18
  unfolding in_two in_three
  text-length = go at s
    where
      go : (x : Option Standing) (y : Option ℕ)
          → length (in_two c ++ 32 ∷ place_field x ++ 32 ∷ value_field x
          ++ 32 ∷ share_field y ++ 32 ∷ mark y ∷ 32 ∷ in_two busy) ≡ 18
      go (Some k) None = refl
      go (Some k) (Some n) = refl
      go None None = refl
      go None (Some n) = refl

  text-characters : c < 100 → Fits at → ShareFits s → busy < 100 → Characters text
  text-characters hc ha hs hb =
      let a = both (in_two c) (32 ∷ place_field at) (two_characters c hc)
      (blank (place_field at) (place-characters at ha)) in
      let b = both (in_two c ++ 32 ∷ place_field at) (32 ∷ value_field at) a
      (blank (value_field at) (value-characters at ha)) in
      let d = both (in_two c ++ 32 ∷ place_field at ++ 32 ∷ value_field at)
      (32 ∷ share_field s) b (blank (share_field s) (share-characters s hs)) in
      let rest : Characters (mark s ∷ 32 ∷ in_two busy) =
      (mark_character s, blank (in_two busy) (two_characters busy hb)) in
      both (in_two c ++ 32 ∷ place_field at ++ 32 ∷ value_field at ++ 32 ∷ share_field s)
      (32 ∷ mark s ∷ 32 ∷ in_two busy) d (blank (mark s ∷ 32 ∷ in_two busy) rest)

  line-is : c < 100 → Fits at → ShareFits s → busy < 100 → IsLine (line c at s busy)
  unfolding line
  line-is hc ha hs hb =
      record { text = text; ended = refl; characters = text-characters hc ha hs hb; eighteen = text-length }

-- characters that are written down are characters by their look
seen : List ℕ → Bool
seen [] = true
seen (x ∷ l) = leb 32 x && leb x 126 && seen l

are_seen : (l : List ℕ) → seen l ≡ true → Characters l
unfolding seen
are_seen [] h = tt
are_seen (x ∷ l) h =
    let both = and_left (leb 32 x && leb x 126) (seen l) h in (
      (leb-true 32 x (and_left _ (leb x 126) both), leb-true x 126 (and_right (leb 32 x) _ both)),
      are_seen l (and_right (leb 32 x && leb x 126) (seen l) h),
    )

head_is : IsLine head
unfolding head seen
head_is =
    let letters : List ℕ =
    67 ∷ 72 ∷ 32 ∷ 80 ∷ 82 ∷ 32 ∷ 86 ∷ 65 ∷ 76 ∷ 32 ∷ 83 ∷ 72 ∷ 82 ∷ 32 ∷ 77 ∷ 32 ∷ 78 ∷ 84 ∷ [] in
    record { text = letters; ended = refl; characters = are_seen letters refl; eighteen = refl }

-- ---- the page

few_busy : (s : Generators) (c : ℕ) → busy_count s c ≤ 64
unfolding busy_count
few_busy s c = total_bits (λ (g : ℕ). is_busy_on c (at s g)) 64

bytes_taken : (n : ℕ) (l : List Entry) → Bytes l → Bytes (take n l)
bytes_taken zero l h = tt
bytes_taken (suc n) [] h = tt
bytes_taken (suc n) (e ∷ l) h = (h.0, bytes_taken n l h.1)

module _ (d : Device) (o : OfBytes d.instrument.table) where
  abbrev t : List Entry
  t = entries_of d.instrument.table

  abbrev p : ℕ
  p = d.instrument.polyphony

  abbrev busy : ℕ → ℕ
  busy = busy_count d.instrument.generators

  short : length t ≤ 16
  short = rw (length-at_most 16 d.instrument.table.count d.instrument.table.entries o.sixteen)
      (at_most_le 16 d.instrument.table.count)

  row_is : (c : ℕ) → c ≤ 16 → IsLine (row t p busy c)
  unfolding row
  row_is c h =
      let s = short in
      let few = few_busy d.instrument.generators c in
      let b = bytes_taken d.instrument.table.count d.instrument.table.entries o.values in
      line-is c (standing_from 1 c t) (lookup c (shares_from p 0 t)) (busy c) (omega arith)
      (standing_fits 1 c t (omega arith) b) (share_fits p c 0 t b) (omega arith)

  line-of-text : (n : ℕ) → n < 17 → IsLine (line_at n (page_text d))
  unfolding page_text
  line-of-text zero h = rw (head_at t p busy) head_is
  line-of-text (suc n) h = rw (line_at_lem t p busy (suc n) (omega arith) (omega arith)) (row_is (suc n) (omega arith))

pub seventeen_lines : SeventeenLines
seventeen_lines d o = (page-length d, line-of-text d o)

-- The song on the generators: in the order of age stand the last notes of the song, one after the other, all held on
-- channel 1. The next key isn't among them, for there are at most 64; it takes an idle generator while there is one,
-- and then the oldest, since no pedal is down.
-- Assumes nothing.
use Rattle.std.specs.Prelude.{if◌then◌else◌, Result, Ok}
use mathlib.Core.Path.{◌≡◌, refl, sym, ap, ◌∙◌, subst}
use mathlib.Core.Bool.{Bool, true, false, not, ◌&&◌, ◌||◌}
use mathlib.Core.List.{List, [], ◌∷◌, ◌++◌, map}
use mathlib.Core.Option.{some}
use Prim.Native.Nat.{ℕ, zero, suc, ◌+◌, ◌%◌, ◌≤◌, ◌<◌}
use native.Mathlib.Omega.{arith}
use borrow.Author.Tests.{eqb-true, eqb-false, eq-eqb, ne_eqb, le-leb, lt-leb}
use lib.Dec.{eqb, leb}
use lib.ListN.{length, length-append}
use Rattle.loops.specs.Cases.{bit}
use Rattle.loops.specs.Passes.{total, first_of, filter_by, count}
use Rattle.loops.proofs.Fill.{up_to_list}
use Rattle.loops.proofs.Totals.{total_bits}
use Rattle.loops.proofs.Occurs.{occurs, total_hole}
use Rattle.loops.proofs.Search.{first_none}
use Rattle.loops.proofs.Tests.{impossible}
use Rattle.refusals.specs.declared.Refusal.{Refusal}
use Rattle.table.specs.declared.Entry.{Entry}
use Rattle.table.specs.Laws.{WellFormed}
use Rattle.table.specs.Table.{entry, start_order, start_table, listed}
use Rattle.table.proofs.Start.{start_entries, start_well_formed}
use Rattle.shares.specs.Shares.{shares_from, lookup, is_masked}
use Rattle.shares.specs.Shares as of-table
use Rattle.shares.proofs.Shares.{sum_from, shares-distinct, masked_unlisted}
use Rattle.ages.specs.Ages.{oldest_first, ages_of, other_than}
use Rattle.generators.specs.declared.Generators.{Generators}
use Rattle.generators.specs.Generators.{Generator, generator, at, is_idle, is_sounding, assigned, silent}
use Rattle.releases.specs.declared.Change.TheVariants.{ReleaseNote}
use Rattle.releases.specs.Releases.{changes, changed}
use Rattle.age_law.proofs.At.{assigned-at}
use Rattle.age_law.proofs.Assigned.{order_length, assigned_order}
use Rattle.allocation.specs.declared.Was.TheVariants.{Stolen}
use Rattle.allocation.specs.declared.Taken.{Taken}
use Rattle.allocation.specs.declared.Allocated.{Allocated}
use Rattle.allocation.specs.Allocation.{cleared, choice, allocated, note_on}
use Rattle.playing.specs.Playing.{reply_of}
use Rattle.note_book.specs.Book.{Slot, empty, note, is_note, is_down, is_on_pedal, is_of}
use Rattle.note_book.specs.Claim.{slot_of}
use Rattle.note_book.specs.WhoLoses.{first_to_go}
use Rattle.note_book.proofs.Playable.{Playable, playable_assigned, playable_silent}
use Rattle.note_book.proofs.Pigeons.{IsListed}
use Rattle.note_book.proofs.Choose.{Chosen, free, theft, shut, total_cut, chosen}
use Rattle.song.specs.Song.{is_theft}
use Rattle.hardest.proofs.Counts.{total-full}

-- ---- a line of notes

-- the generators l hold notes i, i + 1, .. of the song
abbrev Line : Generators → ℕ → List ℕ → Type 0
Line s i [] = Unit {0}
Line s i (g ∷ l) = (at s g ≡ generator 1 1 (i % 128)) × Line s (i + 1) l

-- generator g holds one of the n notes from i on
record Holds (s : Generators) (i n g : ℕ) : Type 0 where
  serial : ℕ
  low : i ≤ serial
  high : serial < i + n
  is : at s g ≡ generator 1 1 (serial % 128)

line-holds : (s : Generators) (i : ℕ) (l : List ℕ) → Line s i l → (g : ℕ) → 1 ≤ occurs g l → Holds s i (length l) g
unfolding count
line-holds s i [] h g k = absurd (omega arith)
line-holds s i (x ∷ l) h g k = go (eqb x g) refl (line-holds s (i + 1) l h.1 g) k
  where
    go : (b : Bool) → eqb x g ≡ b → (1 ≤ occurs g l → Holds s (i + 1) (length l) g)
        → 1 ≤ bit b + occurs g l → Holds s i (suc (length l)) g
    go true e ih k = record {
      serial = i;
      low = omega arith;
      high = omega arith;
      is = subst (λ (y : ℕ). at s y ≡ generator 1 1 (i % 128)) (eqb-true x g e) h.0;
    }
    go false e ih k =
        let r = ih (omega arith) in
        let a = r.low in
        let b = r.high in
        record { serial = r.serial; low = omega arith; high = omega arith; is = r.is }

line_snoc : (s : Generators) (i : ℕ) (l : List ℕ) (g n : ℕ) → Line s i l
    → n ≡ i + length l → at s g ≡ generator 1 1 (n % 128) → Line s i (l ++ (g ∷ []))
line_snoc s i [] g n h e a = (subst (λ (m : ℕ). at s g ≡ generator 1 1 (m % 128)) (omega arith) a, tt)
line_snoc s i (x ∷ l) g n h e a = (h.0, line_snoc s (i + 1) l g n h.1 (omega arith) a)

-- a generator that isn't in the line may change
line_kept : (s t : Generators) (g : ℕ) → ((h : ℕ) → (h ≡ g → ⊥) → at t h ≡ at s h)
    → (i : ℕ) (l : List ℕ) → occurs g l ≡ 0 → Line s i l → Line t i l
unfolding count
line_kept s t g k i [] z h = tt
line_kept s t g k i (x ∷ l) z h = go (eqb x g) refl z (line_kept s t g k (i + 1) l)
  where
    go : (b : Bool) → eqb x g ≡ b → bit b + occurs g l ≡ 0 → (occurs g l ≡ 0 → Line s (i + 1) l → Line t (i + 1) l)
        → (at t x ≡ generator 1 1 (i % 128)) × Line t (i + 1) l
    go true e z ih = absurd (omega arith)
    go false e z ih = (k x (eqb-false x g e) ∙ h.0, ih (omega arith) h.1)

others_all : (g : ℕ) (l : List ℕ) → occurs g l ≡ 0 → filter_by (other_than g) l ≡ l
unfolding filter_by count
others_all g [] z = refl
others_all g (x ∷ l) z = go (eqb x g) z (others_all g l)
  where
    go : (b : Bool) → bit b + occurs g l ≡ 0 → (occurs g l ≡ 0 → filter_by (other_than g) l ≡ l)
        → (if not b then x ∷ filter_by (other_than g) l else filter_by (other_than g) l) ≡ x ∷ l
    go true z ih = absurd (omega arith)
    go false z ih = ap (λ (m : List ℕ). x ∷ m) (ih (omega arith))

-- the first of a list that occurs once
alone : (g : ℕ) (l : List ℕ) → occurs g (g ∷ l) ≡ 1 → occurs g l ≡ 0
unfolding count
alone g l e = let b : bit (eqb g g) ≡ 1 = rw (eq-eqb g g refl) in omega arith

others_head : (g : ℕ) (l : List ℕ) → occurs g l ≡ 0 → filter_by (other_than g) (g ∷ l) ≡ l
unfolding filter_by
others_head g l z = rw (eq-eqb g g refl) (others_all g l z)

idle_empty : (x : Generator) → x.state ≡ 0 → slot_of x ≡ empty
idle_empty x e = rw e

-- no note of the line is on the pedal, so that the first of them goes
record Front (s : Generators) (n g : ℕ) (l : List ℕ) : Type 0 where
  rest : List ℕ
  is : l ≡ g ∷ rest
  line : Line s (n + 1) rest

front : (s : Generators) (n g : ℕ) (l : List ℕ) → Line s n l → 1 ≤ length l
    → first_of (λ x. is_down (slot_of (at s x)) && is_of 1 (slot_of (at s x))) l ≡ some g → Front s n g l
unfolding first_of
front s n g [] h k e = absurd (omega arith)
front s n g (x ∷ l) h k e =
    let down : is_down (slot_of (at s x)) && is_of 1 (slot_of (at s x)) ≡ true =
    ap (λ (y : Generator). is_down (slot_of y) && is_of 1 (slot_of y)) h.0 in
    let r : some x ≡ some g = rw down at e in
    let q : x ≡ g = cc in
    record { rest = l; is = ap (λ (y : ℕ). y ∷ l) q; line = h.1 }

-- where all values are P every listed channel has a share
same-listed : (p c v : ℕ) (l : List ℕ)
    → listed c (shares_from p v (map (λ (x : ℕ). entry x p) l)) ≡ listed c (map (λ (x : ℕ). entry x p) l)
unfolding listed shares_from
same-listed p c v [] = refl
same-listed p c v (x ∷ l) = rw (le-leb p p (omega arith)) (ap (λ (b : Bool). eqb c x || b) (same-listed p c p l))

-- ---- after j notes of the song

abbrev order : Generators → List ℕ
order s = oldest_first s.ages

pub record Lined (p j : ℕ) (s : Generators) : Type 0 where
  pub playable : Playable p s
  pub first : ℕ
  pub line : Line s first (order s)
  pub until : first + length (order s) ≡ j
  pub full : 1 ≤ first → length (order s) ≡ p

pub lined_silent : (p : ℕ) → p ≤ 64 → Lined p 0 silent
unfolding silent ages_of
lined_silent p h =
    record { playable = playable_silent p h; first = 0; line = tt; until = refl; full = λ k. absurd (omega arith) }

module _ (p j : ℕ) (lo : 1 ≤ p) (s : Generators) (o : Lined p j s) where
  abbrev sounds : ℕ → Bool
  sounds g = is_sounding (at s g)

  abbrev slots : ℕ → Slot
  slots g = slot_of (at s g)

  size : length (order s) ≡ total (λ g. bit (sounds g)) p
  size =
      sym (order_length s o.playable.ordered)
      ∙ total_cut (λ (g : ℕ). bit (sounds g)) p 64 o.playable.few
      (λ g k. ap (λ (b : Bool). bit (not b)) (o.playable.above g k))

  few : length (order s) ≤ p
  few = let e = size in let h = total_bits sounds p in omega arith

  -- what sounds is a note of the song
  holds : (g : ℕ) → sounds g ≡ true → Holds s o.first (length (order s)) g
  holds g e = line-holds s o.first (order s) o.line g (rw (o.playable.ordered.once g, e) (omega arith))

  -- and what doesn't is idle
  data Either (g : ℕ) : Type 0 where
    song : (k : ℕ) → k < j → j ≤ k + 64 → sounds g ≡ true → at s g ≡ generator 1 1 (k % 128) → Either g
    idle : (at s g).state ≡ 0 → Either g

  either : (g : ℕ) → Either g
  either g = go (is_idle (at s g)) refl
    where
      go : (b : Bool) → is_idle (at s g) ≡ b → Either g
      go true e = idle (eqb-true (at s g).state 0 e)
      go false e =
          let h = holds g (ap not e) in
          let a = h.low in
          let b = h.high in
          let c = few in
          let d = o.until in
          let f = o.playable.few in
          song h.serial (omega arith) (omega arith) (ap not e) h.is

  -- ---- the next key

  abbrev key : ℕ
  key = j % 128

  unchanged : (g : ℕ) → changes (ReleaseNote 1 key) (at s g) ≡ false
  unfolding changes
  unchanged g = go (either g)
    where
      go : Either g → changes (ReleaseNote 1 key) (at s g) ≡ false
      go (song k a b e h) =
          ap (changes (ReleaseNote 1 key)) h ∙ ne_eqb (k % 128) (j % 128) (λ (q : k % 128 ≡ j % 128). omega arith)
      go (idle e) = rw e

  -- it ends no note
  cleared-same : cleared false 1 key s ≡ s
  unfolding cleared changed
  cleared-same =
      ap (λ (l : List ℕ). record { state = l; channel = s.channel; key = s.key; ages = s.ages })
      (up_to_list _ 0 s.state 64 o.playable.ordered.sized.states (λ g h. rw (unchanged g)))

  -- ---- who gets it

  abbrev quota : List Entry
  quota = shares_from p 0 (map (λ (c : ℕ). entry c p) start_order)

  listed-one : listed 1 quota ≡ true
  unfolding listed
  listed-one = same-listed p 1 0 start_order

  unmasked : is_masked (of-table.share_of (start_table p) p 1) ≡ false
  unfolding of-table.share_of
  unmasked = ap (λ (l : List Entry). is_masked (lookup 1 (shares_from p 0 l))) (start_entries p)
      ∙ masked_unlisted 1 quota ∙ ap not listed-one

  all_listed : (g : ℕ) → IsListed quota (slots g)
  all_listed g = go (either g)
    where
      go : Either g → IsListed quota (slots g)
      go (song k a b e h) = subst (IsListed quota) (sym (ap slot_of h)) listed-one
      go (idle e) = subst (IsListed quota) (sym (idle_empty (at s g) e)) tt

  chosen-one : Chosen p slots s quota 1 (choice s (start_table p) p 1)
  chosen-one =
      let w = subst WellFormed (start_entries p) (start_well_formed p) in
      let h = sum_from p 0 (map (λ (c : ℕ). entry c p) start_order) w.rising (omega arith) in
      chosen p slots s o.playable (λ g. refl) quota 1
      (shares-distinct p 0 (map (λ (c : ℕ). entry c p) start_order) w.distinct)
      (omega arith) listed-one all_listed (start_table p)
      (ap (shares_from p 0) (start_entries p))

  -- a theft if and only if all P generators have a note of the song
  pub record Plays (a : Allocated) : Type 0 where
    pub stolen : is_theft (reply_of a.taken 1 key) ≡ leb p j
    pub lined : Lined p (j + 1) a.generators

  -- the assigned generator g goes last, behind m
  behind : (g n : ℕ) (m : List ℕ) → g < p → occurs g m ≡ 0 → filter_by (other_than g) (order s) ≡ m
      → Line s n m → n + length m ≡ j → (1 ≤ n → length m + 1 ≡ p) → Lined p (j + 1) (assigned g 1 key s)
  behind g n m h z e l u f =
      let k = o.playable.few in
      let q : order (assigned g 1 key s) ≡ m ++ (g ∷ []) =
      assigned_order s o.playable.ordered g 1 key (omega arith) ∙ ap (λ (x : List ℕ). x ++ (g ∷ [])) e in
      let a = length-append m (g ∷ []) in
      let new = assigned-at g 1 key s o.playable.ordered.sized (omega arith) in
      record {
        playable = playable_assigned g 1 key p s o.playable h;
        first = n;
        line = rw q (line_snoc (assigned g 1 key s) n m g j
            (line_kept s (assigned g 1 key s) g (λ x r. new x ∙ rw (ne_eqb x g r)) n m z l)
            (omega arith) (new g ∙ rw (eq-eqb g g refl)));
        until = rw q (omega arith);
        full = λ b. rw q (let r = f b in omega arith);
      }

  -- where there is a note it is one of the song's
  sounding : (g : ℕ) → is_note (slots g) ≡ true → sounds g ≡ true
  sounding g e = go (either g)
    where
      go : Either g → sounds g ≡ true
      go (song k a b x y) = x
      go (idle x) = let q : ◌≡◌ {A = Bool} false true = sym (ap is_note (idle_empty (at s g) x)) ∙ e in impossible (cc)

  own : (g : ℕ) → is_note (slots g) ≡ true → is_of 1 (slots g) ≡ true
  own g e = go (either g)
    where
      go : Either g → is_of 1 (slots g) ≡ true
      go (song k a b x y) = ap (λ (z : Generator). is_of 1 (slot_of z)) y
      go (idle x) = let q : ◌≡◌ {A = Bool} false true = sym (ap is_note (idle_empty (at s g) x)) ∙ e in impossible (cc)

  no-pedal : (g : ℕ) → is_on_pedal (slots g) && is_of 1 (slots g) ≡ false
  no-pedal g = go (either g)
    where
      go : Either g → is_on_pedal (slots g) && is_of 1 (slots g) ≡ false
      go (song k a b x y) = ap (λ (z : Generator). is_on_pedal (slot_of z) && is_of 1 (slot_of z)) y
      go (idle x) = ap (λ (z : Slot). is_on_pedal z && is_of 1 z) (idle_empty (at s g) x)

  first-down : (g : ℕ) → first_to_go slots (order s) 1 ≡ some g
      → first_of (λ x. is_down (slots x) && is_of 1 (slots x)) (order s) ≡ some g
  first-down g e = rw (first_none (λ x. is_on_pedal (slots x) && is_of 1 (slots x)) no-pedal (order s)) at e

  take : (t : Result Taken Refusal) → Chosen p slots s quota 1 t → Plays (allocated s s 1 key t)
  take t (free g w z h e) = go (either g)
    where
      go : Either g → Plays (allocated s s 1 key (Ok (record { generator = g; was = w })))
      go (song k a b x y) = let r : note false 1 (k % 128) ≡ empty = sym (ap slot_of y) ∙ e in impossible (cc)
      go (idle x) =
          let mute : sounds g ≡ false = rw x in
          let a = size in
          let b = total_hole sounds p g h mute in
          let once = o.playable.ordered.once g in
          let absent : occurs g (order s) ≡ 0 = once ∙ ap bit mute in
          let u = o.until in
          let early : o.first ≡ 0 = start o.first o.full (omega arith) in
          record {
            stolen = z ∙ sym (lt-leb p j (omega arith));
            lined = behind g o.first (order s) h absent
                (others_all g (order s) absent) o.line u (λ k. absurd (omega arith));
          }
        where
          start : (n : ℕ) → (1 ≤ n → length (order s) ≡ p) → length (order s) < p → n ≡ 0
          start zero f l = refl
          start (suc n) f l = absurd (let k = f (omega arith) in omega arith)
  take t (theft g d f h e v w r last) = go (either g)
    where
      robs : Front s o.first g (order s) → length (order s) ≡ p
          → sounds g ≡ true → Plays (allocated s s 1 key (Ok (record { generator = g; was = Stolen })))
      robs w n y =
          let once : occurs g (g ∷ w.rest) ≡ 1 =
          ap (occurs g) (sym w.is) ∙ o.playable.ordered.once g ∙ ap bit y in
          let absent : occurs g w.rest ≡ 0 = alone g w.rest once in
          let size : length (order s) ≡ suc (length w.rest) = ap length w.is in
          let u = o.until in
          record {
            stolen = sym (le-leb p j (omega arith));
            lined = behind g (o.first + 1) w.rest h absent
                (ap (filter_by (other_than g)) w.is ∙ others_head g w.rest absent) w.line
                (omega arith) (λ k. omega arith);
          }

      full : length (order s) ≡ p
      full = size ∙ total-full sounds p (λ x l. sounding x (f x l))

      go : Either g → Plays (allocated s s 1 key (Ok (record { generator = g; was = Stolen })))
      go (song k a b x y) =
          let q : eqb 1 d ≡ true = sym (ap (λ (z : Generator). is_of d (slot_of z)) y) ∙ e in
          let one : d ≡ 1 = sym (eqb-true 1 d q) in
          let n = full in
          robs (front s o.first g (order s) o.line (omega arith)
          (first-down g (subst (λ (z : ℕ). first_to_go slots (order s) z ≡ some g) one r))) n x
      go (idle x) =
          let q : ◌≡◌ {A = Bool} false true = sym (ap (is_of d) (idle_empty (at s g) x)) ∙ e in impossible (cc)
  take t (shut f v z w r) =
      absurd (let n = total-full (λ (g : ℕ). is_of 1 (slots g)) p (λ g l. own g (f g l)) in omega arith)

  -- The law: the next note of the song.
  pub plays : Plays (note_on s (start_table p) p false 1 key)
  unfolding note_on
  plays = rw (unmasked, cleared-same) (take (choice s (start_table p) p 1) chosen-one)

-- What stands under `NT` comes to the number of busy generators: each busy generator is counted on one channel, and
-- that is one of the sixteen, since its note stands on a channel that the table lists. The sum over channels of sums
-- over generators is the sum over generators of sums over channels.
-- Assumes nothing.
use Rattle.std.specs.Prelude.{if◌then◌else◌}
use Prim.Native.Nat.{ℕ, zero, suc, ◌+◌, ◌/◌, ◌%◌, ◌≤◌, ◌<◌}
use mathlib.Core.Path.{◌≡◌, refl, sym, ap, ◌∙◌}
use mathlib.Core.Bool.{Bool, true, false, ◌&&◌, ◌||◌}
use mathlib.Core.List.{List, [], ◌∷◌}
use native.Mathlib.Omega.{arith}
use borrow.Author.Tests.{leb-true, leb-false, ltb-true, eqb-true, eq-eqb, ne_eqb}
use lib.Dec.{eqb, ltb, leb}
use Rattle.loops.specs.Cases.{bit}
use Rattle.loops.specs.Passes.{total}
use Rattle.loops.proofs.Totals.{total-same, total_add, total_zero, total_bits}
use Rattle.loops.proofs.Tests.{impossible}
use Rattle.table.specs.declared.Entry.{Entry}
use Rattle.table.specs.Laws.{Channels}
use Rattle.table.specs.Table.{listed}
use Rattle.shares.proofs.Shares.{shares-channels}
use Rattle.generators.specs.Generators.{Generator, at, is_idle, is_held, is_sustained, is_busy, is_busy_on}
use Rattle.candidates.specs.Candidates.{busy_count}
use Rattle.queries.specs.Queries.{generator_query}
use Rattle.service.specs.Page.{in_two}
use Rattle.note_book.specs.Claim.{slot_of, after, Live, begin}
use Rattle.note_book.proofs.Pigeons.{IsListed}
use Rattle.note_book.proofs.Choose.{total_cut}
use Rattle.note_book.proofs.Matches.{quota}
use Rattle.shown.specs.Shown.{is_busy_told, busy_told, field, read_two, NotesAddUp}
use Rattle.shown.proofs.Book.{matched}
use Rattle.shown.proofs.Queries.{told_busy, told-count, none_busy, agrees_with_queries}

-- ---- sums

swapped : (f : ℕ → ℕ → ℕ) (m n : ℕ) → total (λ i. total (λ g. f i g) n) m ≡ total (λ g. total (λ i. f i g) m) n
unfolding total
swapped f zero n = sym (total_zero n)
swapped f (suc m) n = rw (swapped f m n) (sym (total_add (λ (g : ℕ). total (λ i. f i g) m) (λ (g : ℕ). f m g) n))

-- a channel among channels 1 to n
module _ (c : ℕ) where
  none-among : (n : ℕ) → n < c → total (λ i. bit (eqb c (i + 1))) n ≡ 0
  unfolding total
  none-among zero h = refl
  none-among (suc n) h = rw (none-among n (omega arith), ne_eqb c (n + 1) (λ e. absurd (omega arith))) refl

  one-among : (n : ℕ) → 1 ≤ c → c ≤ n → total (λ i. bit (eqb c (i + 1))) n ≡ 1
  unfolding total
  one-among zero lo hi = absurd (omega arith)
  one-among (suc n) lo hi = go (leb c n) refl (one-among n lo)
    where
      go : (b : Bool) → leb c n ≡ b → (c ≤ n → total (λ i. bit (eqb c (i + 1))) n ≡ 1)
          → total (λ i. bit (eqb c (i + 1))) n + bit (eqb c (n + 1)) ≡ 1
      go true e ih =
          let h = leb-true c n e in
          rw (ih h, ne_eqb c (n + 1) (λ q. absurd (omega arith))) refl
      go false e ih =
          let h = leb-false c n e in
          rw (none-among n (omega arith), eq-eqb c (n + 1) (omega arith)) refl

-- ---- channels

-- a listed channel is one of the sixteen
in_range : (c : ℕ) (l : List Entry) → Channels l → listed c l ≡ true → (1 ≤ c) × (c ≤ 16)
unfolding listed
in_range c [] h e = impossible (cc)
in_range c (x ∷ l) h e = go (eqb c x.channel) refl e (in_range c l h.1)
  where
    go : (b : Bool) → eqb c x.channel ≡ b → b || listed c l ≡ true
        → (listed c l ≡ true → (1 ≤ c) × (c ≤ 16)) → (1 ≤ c) × (c ≤ 16)
    go true q e ih = rw (eqb-true c x.channel q) h.0
    go false q e ih = ih e

-- the note of a busy generator is of its channel
busy_listed : (q : List Entry) (x : Generator) → IsListed q (slot_of x) → is_busy x ≡ true → listed x.channel q ≡ true
busy_listed q x h e = go (is_held x) refl (is_sustained x) refl h e
  where
    go : (a : Bool) → is_held x ≡ a → (b : Bool) → is_sustained x ≡ b
        → IsListed q (slot_of x) → a || b ≡ true → listed x.channel q ≡ true
    go true p b r h e = rw p at h
    go false p true r h e = rw (p, r) at h
    go false p false r h e = impossible (cc)

-- a generator is counted once among the sixteen if it is busy, else never
once : (x : Generator) → (is_busy x ≡ true → (1 ≤ x.channel) × (x.channel ≤ 16))
    → total (λ i. bit (is_busy_on (i + 1) x)) 16 ≡ bit (is_busy x)
once x h = go (is_busy x) h
  where
    go : (b : Bool) → (b ≡ true → (1 ≤ x.channel) × (x.channel ≤ 16))
        → total (λ i. bit (b && eqb x.channel (i + 1))) 16 ≡ bit b
    go true h = one-among x.channel 16 (h refl).0 (h refl).1
    go false h = total_zero 16

-- ---- the law

-- two places give back the number that was written in them
read_two_lem : (n : ℕ) → n < 100 → read_two (in_two n) ≡ n
unfolding in_two
read_two_lem n h = go (ltb n 10) refl
  where
    go : (a : Bool) → ltb n 10 ≡ a → read_two ((if a then 32 else 48 + n / 10) ∷ (48 + n % 10) ∷ []) ≡ n
    go true e = let s = ltb-true n 10 e in omega arith
    go false e = omega arith

pub notes_add_up : NotesAddUp
unfolding busy_count
notes_add_up p id l =
    let m = matched p id l in
    let d = (after Live (begin p id) l).device in
    let s = d.instrument.generators in
    let b = (after Live (begin p id) l).book in
    let above : (g : ℕ) → d.instrument.polyphony ≤ g → is_idle (at s g) ≡ true =
    λ g h. m.playable.above g (rw m.polyphony at h) in
    let few : d.instrument.polyphony ≤ 64 = rw m.polyphony m.playable.few in
    let small : (c : ℕ) → busy_told d c ≤ 64 =
    λ c. rw (told-count d above few c) (total_bits (λ (g : ℕ). is_busy_on c (at s g)) 64) in
    total-same (λ (i : ℕ). read_two (field 16 2 (i + 1) d)) (λ (i : ℕ). busy_told d (i + 1)) 16
    (λ i h. rw (agrees_with_queries p id l (i + 1) (omega arith) (omega arith)).notes
    (read_two_lem (busy_told d (i + 1)) (let k = small (i + 1) in omega arith)))
    ∙ total-same (λ (i : ℕ). busy_told d (i + 1))
    (λ (i : ℕ). busy_count s (i + 1)) 16 (λ i h. told-count d above few (i + 1))
    ∙ swapped (λ (i g : ℕ). bit (is_busy_on (i + 1) (at s g))) 16 64
    ∙ total-same (λ (g : ℕ). total (λ i. bit (is_busy_on (i + 1) (at s g))) 16) (λ (g : ℕ). bit (is_busy (at s g))) 64
    (λ g h. once (at s g) (λ e.
    in_range (at s g).channel (quota b) (shares-channels b.polyphony 0 b.table m.well_formed.channels)
    (busy_listed (quota b) (at s g) (rw (m.notes g) at (m.unmasked g)) e)))
    ∙ sym (total_cut (λ (g : ℕ). bit (is_busy (at s g))) 64 256 (omega arith)
    (λ g h. none_busy d above g (omega arith)))
    ∙ sym (total-same (λ (g : ℕ). bit (is_busy_told (generator_query d g)))
    (λ (g : ℕ). bit (is_busy (at s g))) 256 (λ g h. ap bit (told_busy d above g)))

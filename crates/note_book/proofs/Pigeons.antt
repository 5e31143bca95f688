-- The pigeonhole: where every generator has a note of an unmasked channel, some channel is over its share with one
-- note more, since the shares come to at most P. Sums go over the list of shares, q; a channel's number there is n of
-- it.
-- Assumes nothing.
use Rattle.std.specs.Prelude.{if◌then◌else◌, Some, None}
use Rattle.std.specs.Prelude as prelude
use mathlib.Core.Path.{◌≡◌, refl, sym, ap, ◌∙◌}
use mathlib.Core.Bool.{Bool, true, false, ◌||◌, true≢false, false≢true}
use mathlib.Core.List.{List, [], ◌∷◌}
use mathlib.Core.Option.{Option, some, none, some-ne-none, none-ne-some}
use Prim.Native.Nat.{ℕ, zero, suc, ◌+◌, ◌≤◌, ◌<◌}
use native.Mathlib.Omega.{arith}
use borrow.Author.Tests.{ltb-true, ltb-false, eqb-true, eqb-false, eq-eqb, ne_eqb}
use lib.Dec.{eqb, ltb}
use Rattle.loops.specs.Cases.{bit}
use Rattle.loops.specs.Passes.{total}
use Rattle.table.specs.declared.Entry.{Entry}
use Rattle.table.specs.Laws.{Distinct}
use Rattle.table.specs.Table.{listed}
use Rattle.shares.specs.Shares.{sum, lookup}
use Rattle.stealing.specs.Stealing.{otherwise, over_share}
use Rattle.note_book.specs.Book.{Slot, empty, note, is_of, is_note, notes_on}
use Rattle.note_book.specs.WhoLoses.{with_new}

abbrev sum_by : (ℕ → ℕ) → List Entry → ℕ
sum_by n [] = 0
sum_by n (e ∷ q) = n e.channel + sum_by n q

-- an unmasked channel has more than its share
abbrev pub IsOver : prelude.Option ℕ → ℕ → Type 0
IsOver None n = ⊥
IsOver (Some u) n = u < n

-- ---- the channel to steal from

none_le : (n : ℕ → ℕ) (q : List Entry) → over_share n q ≡ none → sum_by n q ≤ sum q
unfolding over_share
none_le n [] e = omega arith
none_le n (x ∷ q) e = go (over_share n q) refl (ltb x.value (n x.channel)) refl e (none_le n q)
  where
    go : (o : Option ℕ) → over_share n q ≡ o → (b : Bool) → ltb x.value (n x.channel) ≡ b
        → otherwise o (if b then some x.channel else none) ≡ none
        → (over_share n q ≡ none → sum_by n q ≤ sum q) → n x.channel + sum_by n q ≤ x.value + sum q
    go (some d) eo b eb e ih = absurd (some-ne-none d e)
    go none eo true eb e ih = absurd (some-ne-none x.channel e)
    go none eo false eb e ih = let k = ih eo in omega (arith, ltb-false x.value (n x.channel) eb)

unlisted_masked : (d : ℕ) (q : List Entry) (m : ℕ) → listed d q ≡ false → IsOver (lookup d q) m → ⊥
unfolding listed lookup
unlisted_masked d [] m u h = h
unlisted_masked d (x ∷ q) m u h = go (eqb d x.channel) u h (unlisted_masked d q m)
  where
    go : (b : Bool) → b || listed d q ≡ false → IsOver (if b then Some x.value else lookup d q) m
        → (listed d q ≡ false → IsOver (lookup d q) m → ⊥) → ⊥
    go true u h ih = true≢false u
    go false u h ih = ih u h

-- the chosen channel is over its share, for no channel is listed twice
pub over_some : (n : ℕ → ℕ) (q : List Entry) (d : ℕ) → Distinct q → over_share n q ≡ some d → IsOver (lookup d q) (n d)
unfolding over_share lookup
over_some n [] d u e = absurd (none-ne-some d e)
over_some n (x ∷ q) d u e = go (over_share n q) refl (ltb x.value (n x.channel)) refl e (over_some n q d u.1)
  where
    here : x.channel ≡ d → x.value < n x.channel
        → IsOver (if eqb d x.channel then Some x.value else lookup d q) (n d)
    here h l = rw (eq-eqb d x.channel (sym h)) (rw (← h) l)

    there : (b : Bool) → eqb d x.channel ≡ b → IsOver (lookup d q) (n d)
        → IsOver (if b then Some x.value else lookup d q) (n d)
    there true eb l =
        absurd (unlisted_masked d q (n d) (ap (λ (y : ℕ). listed y q) (eqb-true d x.channel eb) ∙ u.0) l)
    there false eb l = l

    go : (o : Option ℕ) → over_share n q ≡ o → (b : Bool) → ltb x.value (n x.channel) ≡ b
        → otherwise o (if b then some x.channel else none) ≡ some d
        → (over_share n q ≡ some d → IsOver (lookup d q) (n d))
        → IsOver (if eqb d x.channel then Some x.value else lookup d q) (n d)
    go (some y) eo b eb e ih = there (eqb d x.channel) refl (ih (eo ∙ e))
    go none eo true eb e ih = here (cc) (ltb-true x.value (n x.channel) eb)
    go none eo false eb e ih = absurd (none-ne-some d e)

pub over_same : (m n : ℕ → ℕ) (q : List Entry) → ((d : ℕ) → m d ≡ n d) → over_share m q ≡ over_share n q
unfolding over_share
over_same m n [] h = refl
over_same m n (x ∷ q) h = rw (h x.channel, over_same m n q h)

-- ---- sums

sum_add : (m n : ℕ → ℕ) (q : List Entry) → sum_by (λ d. m d + n d) q ≡ sum_by m q + sum_by n q
sum_add m n [] = refl
sum_add m n (x ∷ q) = let k = sum_add m n q in omega arith

sum_zero : (q : List Entry) → sum_by (λ d. 0) q ≡ 0
sum_zero [] = refl
sum_zero (x ∷ q) = let k = sum_zero q in omega arith

-- by channels and by generators
sum-total : (f : ℕ → ℕ → ℕ) (p : ℕ) (q : List Entry)
    → sum_by (λ d. total (f d) p) q ≡ total (λ g. sum_by (λ d. f d g) q) p
unfolding total
sum-total f zero q = sum_zero q
sum-total f (suc p) q =
    let k = sum-total f p q in
    sum_add (λ (d : ℕ). total (f d) p) (λ (d : ℕ). f d p) q ∙ ap (λ (n : ℕ). n + sum_by (λ d. f d p) q) k

total_ones : (f : ℕ → ℕ) (p : ℕ) → ((g : ℕ) → g < p → 1 ≤ f g) → p ≤ total f p
unfolding total
total_ones f zero h = omega arith
total_ones f (suc p) h = let k = total_ones f p (λ g l. h g (omega arith)) in let j = h p (omega arith) in omega arith

pub flip : (a b : ℕ) → eqb a b ≡ eqb b a
flip a b = go (eqb b a) refl
  where
    go : (t : Bool) → eqb b a ≡ t → eqb a b ≡ t
    go true e = eq-eqb a b (sym (eqb-true b a e))
    go false e = ne_eqb a b (λ (q : a ≡ b). eqb-false b a e (sym q))

listed-sum : (c : ℕ) (q : List Entry) → listed c q ≡ true → 1 ≤ sum_by (λ d. bit (eqb c d)) q
unfolding listed
listed-sum c [] e = absurd (false≢true e)
listed-sum c (x ∷ q) e = go (eqb c x.channel) e (listed-sum c q)
  where
    go : (b : Bool) → b || listed c q ≡ true → (listed c q ≡ true → 1 ≤ sum_by (λ d. bit (eqb c d)) q)
        → 1 ≤ bit b + sum_by (λ d. bit (eqb c d)) q
    go true e ih = omega arith
    go false e ih = let k = ih e in omega arith

-- ---- the law

-- a note stands on a channel of the list
abbrev pub IsListed : List Entry → Slot → Type 0
IsListed q empty = Unit {0}
IsListed q (note p c k) = listed c q ≡ true

slot_sum : (q : List Entry) (x : Slot) → is_note x ≡ true → IsListed q x → 1 ≤ sum_by (λ d. bit (is_of d x)) q
slot_sum q empty e h = absurd (false≢true e)
slot_sum q (note p c k) e h = listed-sum c q h

pub pigeons : (p : ℕ) (n : ℕ → Slot) (q : List Entry) (c : ℕ) → ((g : ℕ) → g < p → is_note (n g) ≡ true)
    → ((g : ℕ) → IsListed q (n g)) → listed c q ≡ true → sum q ≤ p
    → over_share (with_new p n c) q ≡ none → ⊥
pigeons p n q c full at_Listed l s e =
    let a = none_le (with_new p n c) q e in
    let b = sum_add (λ (d : ℕ). notes_on p d n) (λ (d : ℕ). bit (eqb d c)) q in
    let t = sum-total (λ (d g : ℕ). bit (is_of d (n g))) p q in
    let o = total_ones (λ (g : ℕ). sum_by (λ d. bit (is_of d (n g))) q) p
    (λ g k. slot_sum q (n g) (full g k) (at_Listed g)) in
    let k = own q l in
    omega arith
  where
    own : (q : List Entry) → listed c q ≡ true → 1 ≤ sum_by (λ d. bit (eqb d c)) q
    own q l = rw (same q) (listed-sum c q l)
      where
        same : (q : List Entry) → sum_by (λ d. bit (eqb d c)) q ≡ sum_by (λ d. bit (eqb c d)) q
        same [] = refl
        same (x ∷ q) = rw (flip x.channel c, same q)

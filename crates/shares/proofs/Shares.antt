-- The shares of a table: they come to at most P, they are those of distinct channels, and a channel that has none is
-- masked.
-- Assumes nothing.
use Rattle.std.specs.Prelude.{if◌then◌else◌}
use mathlib.Core.Path.{◌≡◌, refl, ap}
use mathlib.Core.Bool.{Bool, true, false, not, ◌||◌}
use mathlib.Core.List.{List, [], ◌∷◌}
use Prim.Native.Nat.{ℕ, ◌+◌, ◌-◌, ◌≤◌, ◌<◌}
use native.Mathlib.Omega.{arith}
use native.Mathlib.Nat.{sub-zero}
use borrow.Author.Tests.{leb-true, leb-false, le-leb, eq-eqb}
use lib.Dec.{leb, eqb}
use Rattle.loops.proofs.Tests.{impossible}
use Rattle.table.specs.declared.Entry.{Entry}
use Rattle.table.specs.declared.Table.{Table}
use Rattle.table.specs.Laws.{Rising, Distinct, Channels}
use Rattle.table.specs.Table.{entry, entries_of, listed}
use Rattle.std.specs.Prelude.{Some}
use Rattle.shares.specs.Shares.{shares_from, shares, sum, lookup, share_of, is_masked}

-- what follows a value above P is masked
past : (p v : ℕ) (l : List Entry) → p < v → Rising v l → sum (shares_from p v l) ≡ 0
unfolding shares_from
past p v [] h r = refl
past p v (e ∷ l) h r = go (leb e.value p) refl (past p e.value l)
  where
    go : (b : Bool) → leb e.value p ≡ b → (p < e.value → Rising e.value l → sum (shares_from p e.value l) ≡ 0)
        → sum (if b then entry e.channel (e.value - v) ∷ shares_from p e.value l
        else shares_from p e.value l) ≡ 0
    go true t ih = let k = leb-true e.value p t in absurd (omega arith)
    go false t ih = ih (leb-false e.value p t) r.1

-- the shares from a value on, and that value, come to at most P
pub sum_from : (p v : ℕ) (l : List Entry) → Rising v l → v ≤ p → v + sum (shares_from p v l) ≤ p
unfolding shares_from
sum_from p v [] r h = omega arith
sum_from p v (e ∷ l) r h = go (leb e.value p) refl (sum_from p e.value l)
  where
    go : (b : Bool) → leb e.value p ≡ b
        → (Rising e.value l → e.value ≤ p → e.value + sum (shares_from p e.value l) ≤ p)
        → v + sum
        (if b then entry e.channel (e.value - v) ∷ shares_from p e.value l else shares_from p e.value l) ≤ p
    go true t ih = let k = ih r.1 (leb-true e.value p t) in omega arith
    go false t ih = let k = past p e.value l (leb-false e.value p t) r.1 in omega arith

-- the shares of the unmasked channels come to at most P
pub sum-shares : (p : ℕ) (t : Table) → Rising 0 (entries_of t) → sum (shares p t) ≤ p
sum-shares p t r = let k = sum_from p 0 (entries_of t) r (omega arith) in omega arith

-- a channel that is not listed has no share
pub unlisted_share : (p c v : ℕ) (l : List Entry) → listed c l ≡ false → listed c (shares_from p v l) ≡ false
unfolding listed shares_from
unlisted_share p c v [] h = refl
unlisted_share p c v (e ∷ l) h = go (leb e.value p) (eqb c e.channel) refl h (unlisted_share p c e.value l)
  where
    go : (b d : Bool) → eqb c e.channel ≡ d → d || listed c l ≡ false
        → (listed c l ≡ false → listed c (shares_from p e.value l) ≡ false)
        → listed c
        (if b then entry e.channel (e.value - v) ∷ shares_from p e.value l else shares_from p e.value l) ≡ false
    go b true q h ih = impossible (cc)
    go true false q h ih = rw q (ih h)
    go false false q h ih = ih h

-- distinct channels have distinct shares
pub shares-distinct : (p v : ℕ) (l : List Entry) → Distinct l → Distinct (shares_from p v l)
unfolding shares_from
shares-distinct p v [] d = tt
shares-distinct p v (e ∷ l) d = go (leb e.value p) (shares-distinct p e.value l d.1)
  where
    go : (b : Bool) → Distinct (shares_from p e.value l)
        → Distinct (if b then entry e.channel (e.value - v) ∷ shares_from p e.value l
        else shares_from p e.value l)
    go true ih = (unlisted_share p e.channel e.value l d.0, ih)
    go false ih = ih

-- the channels of the shares are channels
pub shares-channels : (p v : ℕ) (l : List Entry) → Channels l → Channels (shares_from p v l)
unfolding shares_from
shares-channels p v [] d = tt
shares-channels p v (e ∷ l) d = go (leb e.value p) (shares-channels p e.value l d.1)
  where
    go : (b : Bool) → Channels (shares_from p e.value l)
        → Channels (if b then entry e.channel (e.value - v) ∷ shares_from p e.value l
        else shares_from p e.value l)
    go true ih = (d.0, ih)
    go false ih = ih

-- masked is not listed
pub masked_unlisted : (c : ℕ) (l : List Entry) → is_masked (lookup c l) ≡ not (listed c l)
unfolding lookup listed
masked_unlisted c [] = refl
masked_unlisted c (e ∷ l) = go (eqb c e.channel) (masked_unlisted c l)
  where
    go : (b : Bool) → is_masked (lookup c l) ≡ not (listed c l)
        → is_masked (if b then Some e.value else lookup c l) ≡ not (b || listed c l)
    go true ih = refl
    go false ih = ih

-- the first channel of a table has its whole value as its share
pub first-share : (p : ℕ) (e : Entry) (l : List Entry) (t : Table)
    → entries_of t ≡ e ∷ l → e.value ≤ p → share_of t p e.channel ≡ Some e.value
unfolding share_of lookup shares_from
first-share p e l t q h =
    rw (q, le-leb e.value p h, eq-eqb e.channel e.channel refl) (ap Some (sub-zero e.value))

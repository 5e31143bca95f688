-- The loop over a table's entries that looks for a channel's share: at turn i the share found in the entries from i on,
-- with the value before them, is the one found in all of them. Assumes nothing.
use Rattle.std.specs.Prelude.{if◌then◌else◌}
use mathlib.Core.Path.{◌≡◌, refl, sym, ◌∙◌}
use mathlib.Core.Bool.{Bool, true, false, ◌&&◌}
use mathlib.Core.List.{List, ◌∷◌}
use Prim.Native.Nat.{ℕ, suc, ◌+◌, ◌-◌, ◌≤◌, ◌<◌}
use native.Mathlib.Numerals.{add-one}
use lib.Dec.{leb, eqb}
use lib.ListN.{length, drop, get_or, drop_of_length-le}
use lib.Seq.{drop-cons}
use Rattle.loops.proofs.Tests.{impossible}
use Rattle.table.specs.declared.Entry.{Entry}
use Rattle.table.specs.Table.{entry}
use Rattle.std.specs.Prelude.{Option, Some, None}
use Rattle.shares.specs.Shares.{lookup, shares_from}

-- the first entry is the channel's and unmasked, with v before it; it is not
module _ (p c v : ℕ) (x : Entry) (l : List Entry) where
  share-first : leb x.value p && eqb c x.channel ≡ true → lookup c (shares_from p v (x ∷ l)) ≡ Some (x.value - v)
  unfolding lookup shares_from
  share-first t = go (leb x.value p) t
    where
      go : (b : Bool) → b && eqb c x.channel ≡ true
          → lookup c (if b then entry x.channel (x.value - v) ∷ shares_from p x.value l
          else shares_from p x.value l) ≡ Some (x.value - v)
      go true t = rw t
      go false t = impossible (cc)

  share-past : leb x.value p && eqb c x.channel ≡ false
      → lookup c (shares_from p v (x ∷ l)) ≡ lookup c (shares_from p x.value l)
  unfolding lookup shares_from
  share-past t = go (leb x.value p) t
    where
      go : (b : Bool) → b && eqb c x.channel ≡ false
          → lookup c
          (if b then entry x.channel (x.value - v) ∷ shares_from p x.value l else shares_from p x.value l)
          ≡ lookup c (shares_from p x.value l)
      go true t = rw t
      go false t = refl

module _ (l : List Entry) (i : ℕ) where
  -- the entry at i is the channel's and unmasked, with v before it; it is not; there is none left
  pub share_here : (p c v : ℕ) (r : Option ℕ) → i < length l → lookup c (shares_from p v (drop i l)) ≡ r
      → leb (get_or l i (entry 0 0)).value p && eqb c (get_or l i (entry 0 0)).channel ≡ true
      → Some ((get_or l i (entry 0 0)).value - v) ≡ r
  share_here p c v r h e t =
      sym (share-first p c v (get_or l i (entry 0 0)) (drop (suc i) l) t) ∙ (rw (drop-cons l i (entry 0 0) h) at e)

  pub share-next : (p c v : ℕ) (r : Option ℕ) → i < length l → lookup c (shares_from p v (drop i l)) ≡ r
      → leb (get_or l i (entry 0 0)).value p && eqb c (get_or l i (entry 0 0)).channel ≡ false
      → lookup c (shares_from p (get_or l i (entry 0 0)).value (drop (i + 1) l)) ≡ r
  share-next p c v r h e t =
      rw add-one (sym (share-past p c v (get_or l i (entry 0 0)) (drop (suc i) l) t)
      ∙ (rw (drop-cons l i (entry 0 0) h) at e))

  pub share_end : (p c v : ℕ) (r : Option ℕ) → length l ≤ i → lookup c (shares_from p v (drop i l)) ≡ r → None ≡ r
  unfolding lookup shares_from
  share_end p c v r h e = rw (drop_of_length-le l h) at e

-- The loop that marks the channels which a table leaves unmasked: at turn i a channel has a mark, or an entry from i on
-- unmasks it, exactly where an entry of the whole table does.
-- Assumes nothing.
use Rattle.std.specs.Prelude.{if◌then◌else◌}
use mathlib.Core.Path.{◌≡◌, refl, sym, ap, ◌∙◌}
use mathlib.Core.Bool.{Bool, true, false, ◌&&◌, ◌||◌, not, or-false}
use mathlib.Core.List.{List, [], ◌∷◌}
use Prim.Native.Nat.{ℕ, ◌+◌, ◌-◌, ◌≤◌, ◌<◌}
use borrow.Author.Tests.{eqb-true, eqb-false}
use lib.Dec.{eqb, leb}
use native.Mathlib.Numerals.{add-one}
use lib.ListN.{length, drop, get_or, set, replicate, drop_of_length-le}
use lib.Seq.{drop-cons, get_or-set_same, get_or-set_other}
use Rattle.loops.proofs.Padded.{blank}
use Rattle.table.specs.declared.Entry.{Entry}
use Rattle.table.specs.Table.{entry}
use Rattle.shares.specs.Shares.{lookup, shares_from, is_masked}

-- whether one of the entries unmasks channel c among p generators
unfoldable pub plays : ℕ → ℕ → List Entry → Bool
plays p c [] = false
plays p c (e ∷ l) = (leb e.value p && eqb c e.channel) || plays p c l

-- it is so whatever value stands before them
pub masked_by : (p c v : ℕ) (l : List Entry) → is_masked (lookup c (shares_from p v l)) ≡ not (plays p c l)
unfolding plays lookup shares_from
masked_by p c v [] = refl
masked_by p c v (e ∷ l) = go (masked_by p c e.value l) (leb e.value p) (eqb c e.channel) refl
  where
    go : is_masked (lookup c (shares_from p e.value l)) ≡ not (plays p c l) → (b t : Bool) → eqb c e.channel ≡ t
        → is_masked (lookup c
        (if b then entry e.channel (e.value - v) ∷ shares_from p e.value l else shares_from p e.value l))
        ≡ not ((b && t) || plays p c l)
    go ih true true q = rw q
    go ih true false q = rw q ih
    go ih false t q = ih

-- whether channel c is marked, where channel k may be
turn : (p c k v : ℕ) (out : List Bool) (r : Bool) → k < length out
    → (get_or (set out k (get_or out k false || leb v p)) c false || r)
    ≡ (get_or out c false || ((leb v p && eqb c k) || r))
turn p c k v out r h = go (eqb c k) refl (leb v p)
  where
    go : (t : Bool) → eqb c k ≡ t → (b : Bool)
        → (get_or (set out k (get_or out k false || b)) c false || r) ≡ (get_or out c false || ((b && t) || r))
    go true t true =
        rw (eqb-true c k t, get_or-set_same out k (get_or out k false || true) false h)
        (both (get_or out k false))
      where
        both : (x : Bool) → ((x || true) || r) ≡ (x || true)
        both true = refl
        both false = refl
    go true t false =
        rw (eqb-true c k t, get_or-set_same out k (get_or out k false || false) false h) (rw (or-false (get_or out k false)))
    go false t true = rw (get_or-set_other out k c _ false (eqb-false c k t))
    go false t false = rw (get_or-set_other out k c _ false (eqb-false c k t))

module _ (p : ℕ) (l : List Entry) where
  -- what holds at turn i
  abbrev pub Marked-to : ℕ → List Bool → Type 0
  Marked-to i out = (c : ℕ) → c < 256 → (get_or out c false || plays p c (drop i l)) ≡ plays p c l

  pub marked_none : Marked-to 0 (replicate 256 false)
  marked_none c h = rw (blank false 256 c)

  pub marked_next : (i : ℕ) (out : List Bool) → i < length l → (get_or l i (entry 0 0)).channel < length out
      → Marked-to i out
      → Marked-to (i + 1) (set out (get_or l i (entry 0 0)).channel
      (get_or out (get_or l i (entry 0 0)).channel false || leb (get_or l i (entry 0 0)).value p))
  unfolding plays
  marked_next i out h room m c s =
      turn p c (get_or l i (entry 0 0)).channel (get_or l i (entry 0 0)).value out (plays p c (drop (i + 1) l)) room
      ∙ rw add-one (ap (λ (r : List Entry). get_or out c false || plays p c r) (sym (drop-cons l i (entry 0 0) h)))
      ∙ m c s

  pub marked_end : (i v : ℕ) (out : List Bool) → length l ≤ i → Marked-to i out → (c : ℕ)
      → c < 256 → get_or out c false ≡ not (is_masked (lookup c (shares_from p v l)))
  unfolding plays
  marked_end i v out h m c s =
      sym (or-false (get_or out c false))
      ∙ ap (λ (r : List Entry). get_or out c false || plays p c r) (sym (drop_of_length-le l h))
      ∙ m c s
      ∙ twice (plays p c l)
      ∙ ap not (sym (masked_by p c v l))
    where
      twice : (b : Bool) → b ≡ not (not b)
      twice true = refl
      twice false = refl

-- The channel of lowest priority over its share, looked for from the table's end: an entry that is over its share is
-- the answer for the entries up to it, and one that is not leaves the answer to the entries before it.
-- Assumes nothing.
use Rattle.std.specs.Prelude.{if◌then◌else◌}
use mathlib.Core.Path.{◌≡◌, refl, ap, ◌∙◌}
use mathlib.Core.Bool.{Bool, true, false, ◌&&◌}
use mathlib.Core.List.{List, [], ◌∷◌, ◌++◌}
use mathlib.Core.Option.{Option, some, none}
use Prim.Native.Nat.{ℕ, zero, suc, ◌-◌, ◌≤◌, ◌<◌}
use native.Mathlib.Omega.{arith}
use borrow.Author.Tests.{ne_eqb}
use lib.Dec.{eqb, leb, ltb}
use lib.ListN.{length, take, get_or}
use lib.Seq.{take-suc}
use Rattle.table.specs.declared.Entry.{Entry}
use Rattle.table.specs.Table.{entry}
use Rattle.shares.specs.Shares.{shares_from}
use Rattle.stealing.specs.Stealing.{otherwise, over_share}

abbrev none_entry : Entry
none_entry = entry 0 0

-- the value before the i-th entry
abbrev pub before : List Entry → ℕ → ℕ
before l i = if eqb i 0 then 0 else (get_or l (i - 1) none_entry).value

abbrev last_value : ℕ → List Entry → ℕ
last_value v [] = v
last_value v (e ∷ l) = last_value e.value l

last_snoc : (v : ℕ) (l : List Entry) (e : Entry) → last_value v (l ++ (e ∷ [])) ≡ e.value
last_snoc v [] e = refl
last_snoc v (x ∷ l) e = last_snoc x.value l e

last-take : (l : List Entry) (i : ℕ) → i < length l → last_value 0 (take i l) ≡ before l i
last-take l zero h = refl
last-take l (suc i) h =
    let e : suc i - 1 ≡ i = omega arith in
    rw (take-suc l i none_entry (omega arith), ne_eqb (suc i) 0 (λ (q : suc i ≡ 0). omega arith), e)
    (last_snoc 0 (take i l) (get_or l i none_entry))

otherwise_assoc : (a b c : Option ℕ) → otherwise (otherwise a b) c ≡ otherwise a (otherwise b c)
otherwise_assoc (some x) b c = refl
otherwise_assoc none b c = refl

module _ (p : ℕ) where
  -- the share of one entry, if it is unmasked
  abbrev share : ℕ → Entry → List Entry
  share v e = if leb e.value p then entry e.channel (e.value - v) ∷ [] else []

  shares-snoc : (v : ℕ) (l : List Entry) (e : Entry)
      → shares_from p v (l ++ (e ∷ [])) ≡ shares_from p v l ++ share (last_value v l) e
  unfolding shares_from
  shares-snoc v [] e = refl
  shares-snoc v (x ∷ l) e = go (leb x.value p) (shares-snoc x.value l e)
    where
      go : (b : Bool)
          → shares_from p x.value (l ++ (e ∷ [])) ≡ shares_from p x.value l ++ share (last_value x.value l) e
          → (if b then entry x.channel (x.value - v) ∷ shares_from p x.value (l ++ (e ∷ []))
          else shares_from p x.value (l ++ (e ∷ [])))
          ≡ (if b then entry x.channel (x.value - v) ∷ shares_from p x.value l else shares_from p x.value l)
          ++ share (last_value x.value l) e
      go true ih = ap (λ (r : List Entry). entry x.channel (x.value - v) ∷ r) ih
      go false ih = ih

  module _ (n : ℕ → ℕ) where
    over-append : (l m : List Entry) → over_share n (l ++ m) ≡ otherwise (over_share n m) (over_share n l)
    unfolding over_share
    over-append [] m = go (over_share n m)
      where
        go : (o : Option ℕ) → o ≡ otherwise o none
        go (some x) = refl
        go none = refl
    over-append (x ∷ l) m =
        ap (λ (o : Option ℕ). otherwise o (if ltb x.value (n x.channel) then some x.channel else none))
        (over-append l m)
        ∙ otherwise_assoc (over_share n m) (over_share n l) _

    -- whether entry e is over its share, where v is the value before it
    abbrev pub is_over : ℕ → Entry → Bool
    is_over v e = leb e.value p && ltb (e.value - v) (n e.channel)

    over-one : (v : ℕ) (e : Entry) → over_share n (share v e) ≡ (if is_over v e then some e.channel else none)
    unfolding over_share
    over-one v e = go (leb e.value p)
      where
        go : (b : Bool) → over_share n (if b then entry e.channel (e.value - v) ∷ [] else [])
            ≡ (if b && ltb (e.value - v) (n e.channel) then some e.channel else none)
        go true = refl
        go false = refl

    module _ (l : List Entry) (i : ℕ) (h : 0 < i) (k : i ≤ length l) where
      abbrev here : Entry
      here = get_or l (i - 1) none_entry

      abbrev upTo-entry : ℕ → Option ℕ
      upTo-entry j = over_share n (shares_from p 0 (take j l))

      turn : upTo-entry i
          ≡ otherwise (if is_over (before l (i - 1)) here then some here.channel else none) (upTo-entry (i - 1))
      turn =
          let e : i ≡ suc (i - 1) = omega arith in
          let s : take i l ≡ take (i - 1) l ++ (here ∷ []) =
          ap (λ (j : ℕ). take j l) e ∙ take-suc l (i - 1) none_entry (omega arith) in
          let v = last-take l (i - 1) (omega arith) in
          ap (λ (m : List Entry). over_share n (shares_from p 0 m)) s
          ∙ ap (over_share n) (shares-snoc 0 (take (i - 1) l) here)
          ∙ over-append (shares_from p 0 (take (i - 1) l)) (share (last_value 0 (take (i - 1) l)) here)
          ∙ ap (λ (o : Option ℕ). otherwise o (upTo-entry (i - 1))) (over-one (last_value 0 (take (i - 1) l)) here
          ∙ ap (λ (v : ℕ). if is_over v here then some here.channel else none) v)

      pub over_yes : (r : Option ℕ) → upTo-entry i ≡ r
          → is_over (before l (i - 1)) here ≡ true → some here.channel ≡ r
      over_yes r e t = rw (turn, t) at e

      pub over_no : (r : Option ℕ) → upTo-entry i ≡ r → is_over (before l (i - 1)) here ≡ false → upTo-entry (i - 1) ≡ r
      over_no r e t = rw (turn, t) at e

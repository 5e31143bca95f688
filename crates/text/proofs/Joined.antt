-- Two texts put one behind the other are one text, also where the page ends within one of them: past the end nothing is
-- stored.
-- Assumes nothing.
use Prim.Native.Nat.{ℕ, suc, ◌+◌, ◌≤◌, ◌<◌, min, max}
use mathlib.Core.Path.{◌≡◌, refl, sym, ◌∙◌}
use mathlib.Core.Bool.{Bool, true, false}
use mathlib.Core.List.{List, [], ◌∷◌, ◌++◌}
use native.Mathlib.Numerals.{add-one}
use native.Mathlib.Omega.{arith}
use borrow.Author.Tests.{leb-true, leb-false}
use lib.Dec.{leb}
use lib.ListN.{length, set, take, drop, get_or, length-append}
use lib.Seq.{sets, length-sets, sets-eq, set_out, take-suc, take_all}
use Rattle.text.specs.Text.{Put}

sets_out : (l : List ℕ) (i : ℕ) (t : List ℕ) → length l ≤ i → sets l i t ≡ l
sets_out l i [] h = refl
sets_out l i (b ∷ t) h = rw (set_out l i b h) (sets_out l (suc i) t (omega arith))

sets_append : (l : List ℕ) (i : ℕ) (t u : List ℕ) (k : ℕ) → k ≡ i + length t → sets (sets l i t) k u ≡ sets l i (t ++ u)
sets_append l i [] u k e = let h : k ≡ i = omega arith in rw h
sets_append l i (b ∷ t) u k e = sets_append (set l i b) (suc i) t u k (omega arith)

-- nothing put
pub nothing_put : (p : List ℕ) (at : ℕ) → Put p at [] at p
nothing_put p at = record { place = omega arith; page = refl }

pub joined : {p q s t u : List ℕ} {at k m : ℕ} → Put p at t k q → Put q k u m s → Put p at (t ++ u) m s
joined {p} {q} {s} {t} {u} {at} {k} {m} a b =
    record { place = place; page = b.page ∙ rw a.page (go (leb (at + length t) (length p)) refl) }
  where
    same : length q ≡ length p
    same = rw a.page (length-sets p at t)

    place : m ≡ max at (min (at + length (t ++ u)) (length p))
    place =
        let x = a.place in
        let y = b.place in
        let z = same in
        rw (length-append t u) (omega arith)

    go : (c : Bool) → leb (at + length t) (length p) ≡ c → sets (sets p at t) k u ≡ sets p at (t ++ u)
    go true e =
        let h = leb-true (at + length t) (length p) e in
        let x = a.place in
        sets_append p at t u k (omega arith)
    go false e =
        let h = leb-false (at + length t) (length p) e in
        let x = a.place in
        let z = length-sets p at t in
        sets_out (sets p at t) k u (omega arith)
        ∙ sym (sets_out (sets p at t) (at + length t) u (omega arith))
        ∙ sets_append p at t u (at + length t) refl

-- a loop that puts a text byte by byte: a turn, and its end
module _ (t : List ℕ) (i : ℕ) {p q : List ℕ} {at k : ℕ} (a : Put p at (take i t) k q) where
  pub put_next : {s : List ℕ} {m : ℕ} → i < length t → Put q k (get_or t i 0 ∷ []) m s → Put p at (take (i + 1) t) m s
  put_next h b = rw (add-one i, take-suc t i 0 h) (joined a b)

  pub put_end : length t ≤ i → Put p at t k q
  put_end h = rw (take_all i t h) at a

-- where the page has room, the text stands in it whole, between what was before and behind it
pub whole : {p q t : List ℕ} {at k : ℕ} → at + length t ≤ length p → Put p at t k q
    → (k ≡ at + length t) × (q ≡ take at p ++ t ++ drop (at + length t) p)
whole {p} {q} {t} {at} {k} h a = let x = a.place in (omega arith, a.page ∙ sets-eq t p at h)

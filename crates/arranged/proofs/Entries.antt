-- The entries of an order and any values: each channel is one, and none is listed twice.
-- Assumes nothing.
use mathlib.Core.Path.{◌≡◌, refl, sym}
use mathlib.Core.Bool.{Bool, true, false, ◌||◌}
use mathlib.Core.List.{List, [], ◌∷◌}
use Prim.Native.Nat.{ℕ, ◌+◌, ◌≤◌}
use native.Mathlib.Omega.{arith}
use borrow.Author.Tests.{eqb-false, ne_eqb, eq-eqb}
use lib.Dec.{eqb}
use Rattle.loops.specs.Cases.{bit}
use Rattle.loops.specs.Passes.{count}
use Rattle.table.specs.Table.{listed}
use Rattle.table.specs.Laws.{Distinct, Channels}
use Rattle.order.specs.Order.{times}
use Rattle.order.proofs.Once.{Members}
use Rattle.arranging.specs.Arranging.{listing}

listed_none : (c : ℕ) (l vs : List ℕ) → times l c ≡ 0 → listed c (listing l vs) ≡ false
unfolding listed count
listed_none c [] vs h = refl
listed_none c (x ∷ l) [] h = refl
listed_none c (x ∷ l) (v ∷ vs) h = go (eqb x c) refl h (λ k. listed_none c l vs k)
  where
    go : (b : Bool) → eqb x c ≡ b → bit b + times l c ≡ 0
        → (times l c ≡ 0 → listed c (listing l vs) ≡ false) → eqb c x || listed c (listing l vs) ≡ false
    go true e k ih = absurd (omega arith)
    go false e k ih = rw (ne_eqb c x (λ q. eqb-false x c e (sym q))) (ih (omega arith))

pub distinct : (l vs : List ℕ) → Members l → ((c : ℕ) → 1 ≤ c → c ≤ 16 → times l c ≤ 1) → Distinct (listing l vs)
unfolding count
distinct [] vs m h = tt
distinct (x ∷ l) [] m h = tt
distinct (x ∷ l) (v ∷ vs) m h =
    let k = h x m.0.0 m.0.1 in
    let e : bit (eqb x x) ≡ 1 = rw (eq-eqb x x refl) in
    (listed_none x l vs (omega arith), distinct l vs m.1 (λ c p q. let s = h c p q in omega arith))

pub channels : (l vs : List ℕ) → Members l → Channels (listing l vs)
channels [] vs m = tt
channels (x ∷ l) [] m = tt
channels (x ∷ l) (v ∷ vs) m = (m.0, channels l vs m.1)

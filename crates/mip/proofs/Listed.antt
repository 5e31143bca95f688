-- A mark for each channel that the entries so far list.
-- Assumes nothing.
use mathlib.Core.Path.{◌≡◌, refl, sym, ap, ◌∙◌}
use mathlib.Core.Bool.{Bool, true, false, ◌||◌, or-true, or-false, or_assoc}
use mathlib.Core.List.{List, [], ◌∷◌, ◌++◌}
use Prim.Native.Nat.{ℕ, ◌≤◌, ◌<◌}
use borrow.Author.Tests.{eqb-true, eqb-false}
use lib.Dec.{eqb}
use lib.ListN.{length, get_or, set, replicate}
use lib.Seq.{get_or-set_same, get_or-set_other}
use Rattle.loops.proofs.Padded.{blank}
use Rattle.table.specs.declared.Entry.{Entry}
use Rattle.table.specs.Table.{listed}

-- an entry more lists its channel
listed_more : (c : ℕ) (l : List Entry) (e : Entry) → listed c (l ++ (e ∷ [])) ≡ (listed c l || eqb c e.channel)
unfolding listed
listed_more c [] e = or-false (eqb c e.channel)
listed_more c (x ∷ l) e = ap (λ (b : Bool). eqb c x.channel || b) (listed_more c l e)
    ∙ sym (or_assoc (eqb c x.channel) (listed c l) (eqb c e.channel))

-- the marks are those of the entries
abbrev pub Marks : List Entry → List Bool → Type 0
Marks l marks = (c : ℕ) → c ≤ 16 → get_or marks c false ≡ listed c l

pub no_marks : Marks [] (replicate 256 false)
unfolding listed
no_marks c h = blank false 256 c

pub mark_more : (l after : List Entry) (marks : List Bool) (e : Entry) → e.channel < length marks
    → after ≡ l ++ (e ∷ []) → Marks l marks → Marks after (set marks e.channel true)
mark_more l after marks e room a m c h =
    go (eqb c e.channel) refl ∙ sym (listed_more c l e) ∙ ap (listed c) (sym a)
  where
    go : (t : Bool) → eqb c e.channel ≡ t → get_or (set marks e.channel true) c false ≡ (listed c l || eqb c e.channel)
    go true t = rw (eqb-true c e.channel t, get_or-set_same marks e.channel true false room)
        (sym (or-true (listed e.channel l)) ∙ ap (λ (b : Bool). listed e.channel l || b) (sym (rw (eqb-true c e.channel t) at t)))
    go false t =
        rw (get_or-set_other marks e.channel c true false (eqb-false c e.channel t), t) (m c h ∙ sym (or-false (listed c l)))

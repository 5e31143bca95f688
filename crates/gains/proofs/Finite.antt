-- A gain is a number, refused or not: what reads its bits asks that.
-- Assumes nothing.
use Rattle.std.specs.Prelude.{Result}
use mathlib.Core.Path.{sym, subst}
use mathlib.Core.Bool.{Bool, true, false, not}
use Prim.Native.Nat.{ℕ, ◌-◌}
use lib.Dec.{T}
use lib.Ieee.{Float, nan, inf, fin, of_bits, is_nan}
use Rattle.refusals.specs.declared.Refusal.{Refusal}
use Rattle.gains.specs.declared.Gains.{Gains}
use Rattle.gains.specs.Gains.{weight, panned, Near, is_out, Gives, gains_in, Answered}

abbrev IsNumber : Float → Type 0
IsNumber x = T (not (is_nan x))

near_number : (e v w : ℕ) (x : Float) → Near e v w x → IsNumber x
unfolding is_nan
near_number e v w nan h = h.0
near_number e v w (inf s) h = absurd h.0
near_number e v w (fin s m k) h = tt

gives_numbers : (t : Bool) (e v p : ℕ) (g : Gains) → Gives t e v p g → IsNumber g.left × IsNumber g.right
unfolding is_nan of_bits
gives_numbers true e v p g h = subst (λ (x : Gains). IsNumber x.left × IsNumber x.right) (sym h) (tt, tt)
gives_numbers false e v p g h =
    (near_number e v (weight (126 - panned p)) g.left h.0, near_number e v (weight (panned p)) g.right h.1)

pub numbers : (e v p : ℕ) (a : Result Gains Refusal) → Answered e v p a
    → T (not (is_nan (gains_in a).left)) × T (not (is_nan (gains_in a).right))
numbers e v p a h = gives_numbers (is_out e v p) e v p (gains_in a) h.1

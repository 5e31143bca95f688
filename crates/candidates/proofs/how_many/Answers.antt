-- `candidates::how_many` meets its contract. Invariant: n is the count of the first i generators.
-- Assumes nothing.
use Prim.Native.Nat.{ℕ}
use mathlib.Core.Path.{refl, ap, ◌∙◌}
use native.Mathlib.Omega.{arith}
use Rattle.loops.specs.Cases.{bit}
use Rattle.loops.specs.Passes.{total}
use Rattle.loops.proofs.Totals.{bit_le, total-next}
use Rattle.candidates.proofs.Wanted.{wanted_at}
use Rattle.candidates.proofs.how_many.Goals as goal

pub loop-i-init : goal.loop-i-init
unfolding total
loop-i-init c = (omega arith, refl)

pub loop-i-preserved : goal.loop-i-preserved
loop-i-preserved c =
    let l = c.loop-i in
    let a = c.args in
    let x = c.from-n.ensures ∙ ap bit c.is_wanted.ensures in
    let few = bit_le (wanted_at a.want a.state a.channel l.i) in (
      omega arith,
      total-next (λ (g : ℕ). bit (wanted_at a.want a.state a.channel g)) l.i l.n _ l.invariant.1 x,
    )

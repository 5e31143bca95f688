-- `masking::release` meets its contract. Invariant: the first g states are those of the rule, the others as they were.
-- Assumes nothing.
use mathlib.Core.Path.{◌≡◌, refl}
use native.Mathlib.Omega.{arith}
use Rattle.loops.specs.Passes.{up_to}
use Rattle.loops.proofs.Fill.{fill_next, fill_end}
use Rattle.masking.proofs.release.Invariants.{rule}
use Rattle.masking.proofs.release.Goals as goal
use Rattle.masking.proofs.release.Goals.{then-goes, else-goes}

pub loop-g-init : goal.loop-g-init
unfolding up_to
loop-g-init c = (c.well_formed.0.1.0.1, refl)

pub loop-g-preserved : goal.loop-g-preserved
loop-g-preserved c =
    let l = c.loop-g in
    let a = c.args in
    let x : c.if-goes.out ≡ rule a.state a.channel a.gone l.g =
    elim c.if-goes.branch [
      | then-goes w ↦ rw (w.out-is, rw (c.is_busy.ensures, c.from.ensures) at w.if-goes.true)
      | else-goes w ↦ rw (w.out-is, rw (c.is_busy.ensures, c.from.ensures) at w.if-goes.false)
    ] in
    (l.invariant.0, fill_next (rule a.state a.channel a.gone) 0 a.state l.out l.g _ (omega arith) l.invariant.1 x)

pub returns : goal.returns
returns c = let l = c.loop-g in fill_end _ _ _ _ 64 (omega arith) (omega arith) l.invariant.1

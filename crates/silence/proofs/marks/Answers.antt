-- `silence::marks` meets its contract. Invariant: the first i marks are those of the rule, the others 0. From 64 on no
-- generator leaves.
-- Assumes nothing.
use Prim.Native.Nat.{ℕ}
use mathlib.Core.Path.{◌≡◌, refl, ap, ◌∙◌}
use native.Mathlib.Omega.{arith}
use lib.ListN.{replicate}
use Rattle.loops.specs.Cases.{bit}
use Rattle.loops.specs.Passes.{up_to}
use Rattle.loops.proofs.Fill.{fill_next}
use Rattle.loops.proofs.Marks.{room, marks_end}
use Rattle.silence.proofs.Marked.{none_leaves}
use Rattle.silence.proofs.marks.Invariants.{rule}
use Rattle.silence.proofs.marks.Goals as goal

pub loop-i-init : goal.loop-i-init
unfolding up_to
loop-i-init c = (c.well_formed.0.1.0.1, refl)

pub loop-i-preserved : goal.loop-i-preserved
loop-i-preserved c =
    let l = c.loop-i in
    let a = c.args in
    let x = c.from.ensures ∙ ap bit c.leaves.ensures in (
      l.invariant.0,
      fill_next (λ (g : ℕ). bit (rule a.state a.channel a.keys a.leaving g)) 0
          (replicate 256 0) l.out l.i _ (room l.i (omega arith)) l.invariant.1 x,
    )

pub returns : goal.returns
returns c =
    let l = c.loop-i in
    let a = c.args in
    let e : l.i ≡ 64 = omega arith in
    marks_end (rule a.state a.channel a.keys a.leaving) 64
    (none_leaves a.leaving a.state a.channel a.keys l.invariant.0) 192 refl l.out (rw e at l.invariant.1)

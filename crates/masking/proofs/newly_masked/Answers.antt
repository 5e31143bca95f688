-- `masking::newly_masked` meets its contract. Invariant: the numbers below c are marked by the rule, the others are
-- not. From 17 on there is no channel.
-- Assumes nothing.
use Prim.Native.Nat.{ℕ}
use mathlib.Core.Path.{◌≡◌, refl, sym, ◌∙◌}
use mathlib.Core.Bool.{Bool, true, false}
use native.Mathlib.Omega.{arith}
use borrow.Author.Tests.{ltb-true, ltb-false}
use lib.Dec.{ltb}
use lib.ListN.{get_or, length-set}
use Rattle.loops.proofs.Padded.{blank}
use Rattle.masking.specs.Masking.{is_newly_masked}
use Rattle.loops.proofs.Marks.{mark_below, mark_above}
use Rattle.masking.proofs.Marked.{no_channel, newly}
use Rattle.masking.proofs.newly_masked.Goals as goal

pub loop-c-init : goal.loop-c-init
loop-c-init c = (
  refl,
  λ k h. (let e : k ≡ 0 = omega arith in rw e),
  λ k h. blank false 256 k,
)

pub loop-c-preserved : goal.loop-c-preserved
loop-c-preserved c =
    let l = c.loop-c in
    let a = c.args in
    let v = newly a.polyphony a.old a.new l.c _ _ (omega arith) (omega arith) (c.unmasked-before.ensures l.c (omega arith))
    (c.unmasked-after.ensures l.c (omega arith)) in (
      length-set {A = Bool} l.out l.c _ ∙ l.invariant.0,
      mark_below (is_newly_masked a.polyphony a.old a.new) l.out l.c _ (omega arith) v l.invariant.1,
      mark_above l.out l.c _ l.invariant.2,
    )

pub returns : goal.returns
returns c = λ k. go k (ltb k c.loop-c.c) refl
  where
    go : (k : ℕ) (b : Bool) → ltb k c.loop-c.c ≡ b
        → get_or c.loop-c.out k false ≡ is_newly_masked c.args.polyphony c.args.old c.args.new k
    go k true t = c.loop-c.invariant.1 k (ltb-true _ _ t)
    go k false t =
        let h = ltb-false k c.loop-c.c t in
        c.loop-c.invariant.2 k h ∙ sym (no_channel c.args.polyphony c.args.old c.args.new k (omega arith))

-- `masking::unmasked` meets its contract. Invariant: a channel is marked, or is unmasked by an entry that is left,
-- exactly where the table unmasks it.
-- Assumes nothing.
use mathlib.Core.Path.{refl, ap, ◌∙◌}
use mathlib.Core.Bool.{Bool, not}
use mathlib.Core.List.{List}
use native.Mathlib.Omega.{arith}
use lib.ListN.{take, length-set}
use Rattle.table.specs.declared.Entry.{Entry}
use Rattle.shares.specs.Shares.{lookup, shares_from, share_of, is_masked}
use Rattle.table.proofs.Sizes.{entries_16}
use Rattle.table.proofs.Walk.{all_entries}
use Rattle.masking.proofs.Plays.{marked_none, marked_next, marked_end}
use Rattle.masking.proofs.unmasked.Goals as goal

pub loop-e-init : goal.loop-e-init
loop-e-init c = (refl, marked_none c.args.polyphony (take c.from-n.result c.args.table.entries))

pub loop-e-preserved : goal.loop-e-preserved
loop-e-preserved c =
    let l = c.loop-e in
    rw c.from.ensures (
      length-set {A = Bool} l.out _ _ ∙ l.invariant.0,
      marked_next c.args.polyphony (take c.from-n.result c.args.table.entries) l.e-index l.out
          c.loop-e-test.true (omega arith) l.invariant.1,
    )

pub returns : goal.returns
unfolding share_of
returns c = λ k h.
    let l = c.loop-e in
    let a = c.args in
    marked_end a.polyphony (take c.from-n.result a.table.entries) l.e-index 0 l.out c.loop-e-test.false l.invariant.1 k h
    ∙ ap (λ (m : List Entry). not (is_masked (lookup k (shares_from a.polyphony 0 m))))
    (all_entries a.table c.from-n.result (entries_16 a.table c.well_formed.0) (c.from-n.ensures ∙ c.min.ensures))

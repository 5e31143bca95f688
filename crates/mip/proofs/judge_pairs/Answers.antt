-- `mip::judge_pairs` meets its contract. Invariant: the table is that of its entries, two bytes for each, and the
-- judgement of these entries and of the pairs that are left is that of all pairs.
-- Assumes nothing.
use mathlib.Core.Path.{◌≡◌, refl, sym, ◌∙◌}
use mathlib.Core.Bool.{Bool, true}
use Prim.Native.Nat.{◌+◌}
use native.Mathlib.Omega.{arith}
use lib.ListN.{get_or, length-set}
use Rattle.loops.specs.Passes.{padded}
use Rattle.table.specs.Table.{entry, entries_of, table_of}
use Rattle.mip.proofs.Listed.{no_marks, mark_more}
use Rattle.mip.proofs.Pairs.{room, sixteen, one_entry_more, not_a_channel, listed_twice, value_falls, good_pair, no_pair}
use Rattle.mip.proofs.judge_pairs.Goals as goal

pub loop-pair-init : goal.loop-pair-init
unfolding table_of padded
loop-pair-init c =
    let s : c.into_iter-pair-iterator.result.rest.now ≡ c.args.bytes.now = cc in
    (cc, rw s (omega arith), refl, rw s, refl, no_marks)

pub returns-then-m-gt15 : goal.returns-then-m-gt15
returns-then-m-gt15 c =
    let l = c.loop-pair in
    let s = c.in-Some.ensures.steps in
    not_a_channel l.pair-iterator.rest.now c.in-Some.pair.now _ l.before (entries_of l.t) _
    s.1.0 (s.1.1 ∙ l.invariant.0) l.invariant.3 c.if-m-gt15.true

pub returns-then-listed-from : goal.returns-then-listed-from
returns-then-listed-from c =
    let l = c.loop-pair in
    let s = c.in-Some.ensures.steps in
    listed_twice l.pair-iterator.rest.now c.in-Some.pair.now _ l.before (entries_of l.t) _
    s.1.0 (s.1.1 ∙ l.invariant.0) l.invariant.3 c.if-m-gt15.false
    (sym (l.invariant.5 _ (omega arith)) ∙ (rw c.from.ensures at c.if-listed-from.true))

pub returns-then-value-before : goal.returns-then-value-before
returns-then-value-before c =
    let l = c.loop-pair in
    let s = c.in-Some.ensures.steps in
    value_falls l.pair-iterator.rest.now c.in-Some.pair.now _ l.before (entries_of l.t) _
    s.1.0 (s.1.1 ∙ l.invariant.0) l.invariant.3 c.if-m-gt15.false
    (sym (l.invariant.5 _ (omega arith)) ∙ (rw c.from.ensures at c.if-listed-from.false)) c.if-value-before.true

pub offset_bounds-t-from : goal.offset_bounds-t-from
offset_bounds-t-from c =
    let l = c.loop-pair in
    let s = c.in-Some.ensures.steps in
    let r = room _ _ _ l.t.count s.1.0 (s.1.1 ∙ l.invariant.0) l.invariant.1 in
    omega arith

pub bounds-t-from : goal.bounds-t-from
bounds-t-from c =
    let l = c.loop-pair in
    let s = c.in-Some.ensures.steps in
    let r = room _ _ _ l.t.count s.1.0 (s.1.1 ∙ l.invariant.0) l.invariant.1 in
    let k = sixteen l.t l.invariant.2 in
    omega arith

pub overflow_add-t : goal.overflow_add-t
overflow_add-t c =
    let l = c.loop-pair in
    let s = c.in-Some.ensures.steps in
    let r = room _ _ _ l.t.count s.1.0 (s.1.1 ∙ l.invariant.0) l.invariant.1 in
    omega arith

pub loop-pair-preserved : goal.loop-pair-preserved
loop-pair-preserved c =
    let l = c.loop-pair in
    let w = c.in-Some.pair.now in
    let s = c.in-Some.ensures.steps in
    let r = room _ _ _ l.t.count s.1.0 (s.1.1 ∙ l.invariant.0) l.invariant.1 in
    let e = entry (get_or w 0 0 + 1) (get_or w 1 0) in
    let u = one_entry_more l.t e l.invariant.2 r.0 in
    rw (c.from-in-loop-pair.ensures, c.from-in-loop-pair-2.ensures) (
      s.0 ∙ l.invariant.0,
      r.1,
      u.1,
      good_pair l.pair-iterator.rest.now w _ l.before (entries_of l.t) _ s.1.0 (s.1.1 ∙ l.invariant.0) l.invariant.3
          c.if-m-gt15.false
          (sym (l.invariant.5 _ (omega arith)) ∙ (rw c.from.ensures at c.if-listed-from.false))
          c.if-value-before.false _ u.0,
      length-set {A = Bool} l.listed e.channel true ∙ l.invariant.4,
      mark_more (entries_of l.t) _ l.listed e (omega arith) u.0 l.invariant.5,
    )

pub returns : goal.returns
returns c =
    let l = c.loop-pair in
    let s = c.in-None.ensures.steps in
    no_pair l.pair-iterator.rest.now l.before l.t _ (omega arith) l.invariant.2 l.invariant.3

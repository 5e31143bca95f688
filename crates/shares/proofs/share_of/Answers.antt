-- `shares::share_of` meets its contract. Invariant: the share that the channel finds in the entries that are left, with
-- the value before them, is the one that it finds in all of them.
-- Assumes nothing.
use mathlib.Core.Path.{ap, ◌∙◌}
use mathlib.Core.List.{List}
use borrow.Author.Tests.{le-leb, lt-leb, eq-eqb, ne_eqb}
use lib.ListN.{take}
use Rattle.std.specs.Prelude.{Some}
use Rattle.table.specs.declared.Entry.{Entry}
use Rattle.table.proofs.Sizes.{entries_16}
use Rattle.table.proofs.Walk.{all_entries}
use Rattle.shares.specs.Shares.{lookup, shares_from, share_of}
use Rattle.shares.proofs.Walk.{share_here, share-next, share_end}
use Rattle.shares.proofs.share_of.Goals as goal
use Rattle.shares.proofs.share_of.Goals.{else-e-polyphony-via-then-e-polyphony+else-channel-e, else-e-polyphony-via-else-e-polyphony}

pub loop-e-init : goal.loop-e-init
unfolding share_of
loop-e-init c =
    let a = c.args in
    ap (λ (l : List Entry). lookup a.channel (shares_from a.polyphony 0 l))
    (all_entries a.table c.from-n.result (entries_16 a.table c.well_formed.0) (c.from-n.ensures ∙ c.min.ensures))

pub returns-then-channel-e : goal.returns-then-channel-e
returns-then-channel-e c =
    let a = c.args in
    ap Some c.saturating_sub.ensures
    ∙ share_here (take c.from-n.result a.table.entries) c.loop-e.e-index a.polyphony a.channel c.loop-e.before _
    c.loop-e-test.true c.loop-e.invariant
    (rw (le-leb _ _ c.if-e-polyphony.true) (eq-eqb _ _ c.if-channel-e.true))

pub loop-e-preserved : goal.loop-e-preserved
loop-e-preserved c =
    let a = c.args in
    let next = share-next (take c.from-n.result a.table.entries) c.loop-e.e-index a.polyphony a.channel c.loop-e.before _
    c.loop-e-test.true c.loop-e.invariant in
    elim c.else-e-polyphony.branch [
      | else-e-polyphony-via-then-e-polyphony+else-channel-e w ↦
          next (rw (le-leb _ _ w.if-e-polyphony.true) (ne_eqb _ _ w.if-channel-e.false))
      | else-e-polyphony-via-else-e-polyphony w ↦ next (rw (lt-leb _ _ w.if-e-polyphony.false))
    ]

pub returns : goal.returns
returns c =
    let a = c.args in
    share_end (take c.from-n.result a.table.entries) c.loop-e.e-index a.polyphony a.channel c.loop-e.before _
    c.loop-e-test.false c.loop-e.invariant

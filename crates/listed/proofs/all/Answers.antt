-- `listed::all`: a byte more lists one line more; and 128 bytes for each are room for it all.
-- Assumes nothing.
use mathlib.Core.Path.{refl, ◌∙◌}
use Rattle.text.proofs.Joined.{nothing_put}
use Rattle.listed.specs.Listing.{listed_by, after_all}
use Rattle.listed.proofs.Parts.{one_more, no_more, stands_whole}
use Rattle.listed.proofs.all.Goals as goal

pub loop-b-init : goal.loop-b-init
unfolding listed_by after_all
loop-b-init c = (refl, refl, nothing_put _ _)

pub loop-b-preserved : goal.loop-b-preserved
loop-b-preserved c =
    let b = c.loop-b in
    let o = c.one-lister in
    let m = one_more _ _ _ _ o.result c.loop-b-test.true b.invariant.1 b.invariant.2 o.ensures in
    (o.auto.page ∙ b.invariant.0, m.0, m.1)

pub returns-clause-page_after : goal.returns-clause-page_after
returns-clause-page_after c =
    let b = c.loop-b in
    let w = no_more _ _ _ _ c.loop-b-test.false b.invariant.1 b.invariant.2 in
    λ h. stands_whole _ _ _ w.put h

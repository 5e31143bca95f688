-- `pitch_lines::all`: before the byte at an index the bytes before it are answered.
-- Assumes nothing.
use mathlib.Core.Path.{refl, ◌∙◌}
use Rattle.text.proofs.Joined.{nothing_put}
use Rattle.fields.specs.Line.{after_all}
use Rattle.fields.specs.Answers.{answers_by}
use Rattle.pitch_lines.proofs.Parts.{one_more, no_more, stands_whole}
use Rattle.pitch_lines.proofs.all.Goals as goal

pub loop-b-init : goal.loop-b-init
unfolding answers_by after_all
loop-b-init c = (refl, refl, nothing_put _ _)

pub loop-b-preserved : goal.loop-b-preserved
loop-b-preserved c =
    let i = c.loop-b.invariant in
    let o = c.one-k in
    let m = one_more _ _ _ _ o.result c.loop-b-test.true i.1 i.2 o.ensures in (o.auto.page ∙ i.0, m.0, m.1)

pub returns : goal.returns
returns c =
    let i = c.loop-b.invariant in
    let w = no_more _ _ _ _ c.loop-b-test.false i.1 i.2 in
    record { answers = w; page_after = λ h. stands_whole _ _ _ w.put h }

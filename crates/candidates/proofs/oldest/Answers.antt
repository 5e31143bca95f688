-- `candidates::oldest` meets its contract: where none is counted none is found, and else the first with a mark
-- is the first that is wanted.
-- Assumes nothing.
use mathlib.Core.Path.{sym, ap, ◌∙◌}
use Rattle.generators.proofs.Sizes.{state_64}
use Rattle.ages.specs.Ages.{oldest_first}
use Rattle.loops.specs.Cases.{given}
use Rattle.candidates.specs.Candidates.{oldest}
use Rattle.candidates.proofs.Wanted.{found_none, found_marked}
use Rattle.candidates.proofs.oldest.Goals as goal

pub returns-then-how_many-eq0 : goal.returns-then-how_many-eq0
unfolding oldest
returns-then-how_many-eq0 c =
    let s = c.args.generators in
    let z = sym c.how_many.ensures.0 ∙ c.if-how_many-eq0.true in
    sym (ap given (found_none c.args.want s.state s.channel s.key
    (state_64 s c.well_formed.0) z (oldest_first s.ages)))

pub returns : goal.returns
unfolding oldest
returns c =
    let s = c.args.generators in
    c.first_marked.ensures
    ∙ ap given (found_marked c.args.want s.state s.channel s.key
    (state_64 s c.well_formed.0) _ c.marks.ensures (oldest_first s.ages))

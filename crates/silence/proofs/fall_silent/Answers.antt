-- `silence::fall_silent` meets its contract: the marks are those of the generators that leave, in each array and in the
-- order of age.
-- Assumes nothing.
use Rattle.generators.proofs.Sizes.{state_64}
use Rattle.silence.proofs.Marked.{silence_of}
use Rattle.silence.proofs.fall_silent.Goals as goal

pub returns : goal.returns
returns c =
    let l = state_64 c.args.generators c.well_formed.0 in
    simp (
      c.unmarked.ensures,
      c.unmarked-2.ensures,
      c.unmarked-3.ensures,
      c.without.ensures,
      c.marks-gone.ensures,
    )
    (silence_of c.args.leaving c.args.generators l)

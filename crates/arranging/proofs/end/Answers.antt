-- `arranging::end` meets its contract: a number that fell is told, else the song ends.
-- Assumes nothing.
use mathlib.Core.Path.{sym, ◌∙◌}
use borrow.Author.Tests.{not-true, not-false}
use lib.Dec.{eqb}
use Rattle.arranging.specs.Run.{finished}
use Rattle.arranging.proofs.end.Goals as goal

pub returns-then-has_fallen : goal.returns-then-has_fallen
unfolding finished
returns-then-has_fallen c =
    let n = c.args.r.song.number in
    simp (not-true (eqb n 0) (sym c.has_fallen.ensures ∙ c.if-has_fallen.true), c.refuse.ensures)

pub returns : goal.returns
unfolding finished
returns c =
    let n = c.args.r.song.number in
    simp (
      not-false (eqb n 0) (sym c.has_fallen.ensures ∙ c.if-has_fallen.false),
      c.end_song.ensures,
    )

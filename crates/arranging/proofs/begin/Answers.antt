-- `arranging::begin` meets its contract: the order is read by crate `order`.
-- Assumes nothing.
use mathlib.Core.Path.{ap, ◌∙◌}
use lib.ListN.{replicate}
use Rattle.arranging.specs.Run.{song_begun, begun_by}
use Rattle.arranging.proofs.begin.Goals as goal

pub returns-in-Some : goal.returns-in-Some
unfolding begun_by
returns-in-Some c = c.begin_song.ensures ∙ ap begun_by c.in-Some.ensures

pub returns-in-None : goal.returns-in-None
unfolding begun_by
returns-in-None c =
    c.begin_song-in-None.ensures ∙ ap (song_begun (replicate 16 0)) c.number.ensures ∙ ap begun_by c.in-None.ensures

-- `arranging::take` meets its contract. Invariant: what is left of the part, heard by the song and the line so far, is
-- the whole part heard by the run.
-- Assumes nothing.
use mathlib.Core.Path.{◌≡◌}
use lib.ListN.{drop}
use Rattle.arranging.specs.Run.{run, heard}
use Rattle.arranging.proofs.take.Given as goal

abbrev pub invariant-loop-b : goal.invariant-loop-b
invariant-loop-b l = heard (run l.song l.line) (drop l.b-index l.part) ≡ heard (run l.initial.song l.initial.line) l.part

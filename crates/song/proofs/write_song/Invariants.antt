-- `song::write_song` meets its contract: number 1 before number 25, and a loop whose invariant is `Turn`.
-- Assumes nothing.
use Rattle.song.proofs.Written.{Turn}
use Rattle.song.proofs.write_song.Given as goal

abbrev pub invariant-loop-i : goal.invariant-loop-i
invariant-loop-i l = Turn l.polyphony l.n l.initial.song l.song l.d l.thefts l.i

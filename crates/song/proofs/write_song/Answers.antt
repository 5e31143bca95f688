-- `song::write_song` meets its contract: number 1 before number 25, and a loop whose invariant is `Turn`.
-- Assumes nothing.
use mathlib.Core.Path.{sym, ap, ◌∙◌}
use Rattle.loops.specs.Cases.{bit}
use Rattle.song.proofs.Written.{turn_first, turn_next, turn_last}
use Rattle.song.proofs.write_song.Goals as goal

pub loop-i-init : goal.loop-i-init
loop-i-init c =
    let w = sym c.is_wrong_polyphony.ensures ∙ c.if-is_wrong_polyphony.false in
    turn_first _ _ _ _ w (sym c.is_too_long.ensures ∙ c.if-is_too_long.false) c.start.ensures

pub loop-i-preserved : goal.loop-i-preserved
loop-i-preserved c =
    turn_next _ _ _ _ _ _ _ c.loop-i.invariant c.loop-i-test.true _ c.song_byte-b.ensures _ c.byte-r.ensures _
    (c.from-thefts.ensures ∙ ap bit c.is_theft.ensures)

pub returns : goal.returns
returns c = turn_last _ _ _ _ _ _ _ c.loop-i.invariant c.loop-i-test.false

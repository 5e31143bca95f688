-- `arranging::take` meets its contract. Invariant: what is left of the part, heard by the song and the line so far, is
-- the whole part heard by the run.
-- Assumes nothing.
use mathlib.Core.Path.{sym, ap, ◌∙◌}
use native.Mathlib.Omega.{arith}
use Rattle.event_line.specs.declared.Line.{Line}
use Rattle.event_line.specs.Log.{text_of}
use Rattle.arranging.specs.Run.{line_played, run}
use Rattle.arranging.proofs.Parts.{heard-line, heard_byte, heard_end}
use Rattle.arranging.proofs.take.Goals as goal
use Rattle.arranging.proofs.take.Goals.{then-b-eq10, else-b-eq10}

pub loop-b-preserved : goal.loop-b-preserved
loop-b-preserved c =
    let l = c.loop-b in
    let part = c.args.part.now in
    elim c.if-b-eq10.branch [
      | then-b-eq10 w ↦
          heard-line part l.b-index (omega arith) l.song l.line _ _ w.if-b-eq10.true
          (w.song-is ∙ w.play_line-song.ensures ∙ ap (λ (m : Line). line_played l.song (text_of m)) c.push-line.ensures)
          (w.line-is ∙ w.new-line.ensures) ∙ l.invariant
      | else-b-eq10 w ↦
          heard_byte part l.b-index (omega arith) l.song l.line _ _ w.if-b-eq10.false w.song-is
          (w.line-is ∙ c.push-line.ensures) ∙ l.invariant
    ]

pub returns : goal.returns
returns c =
    let l = c.loop-b in
    let part = c.args.part.now in
    sym (heard_end part l.b-index (run l.song l.line) (omega arith)) ∙ l.invariant

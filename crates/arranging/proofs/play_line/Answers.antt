-- `arranging::play_line` meets its contract: behind a number no line is looked at; else what `event_line::read` says of
-- the line is played.
-- Assumes nothing.
use mathlib.Core.Path.{sym, ap, ◌∙◌}
use borrow.Author.Tests.{not-true, not-false}
use lib.Dec.{eqb}
use Rattle.event_line.specs.Log.{event_of, text_of}
use Rattle.arranging.specs.Run.{meaning_played, line_played}
use Rattle.arranging.proofs.Bytes.{said_event, said_nothing}
use Rattle.arranging.proofs.play_line.Goals as goal

pub returns-then-has_fallen : goal.returns-then-has_fallen
unfolding line_played
returns-then-has_fallen c =
    simp (not-true (eqb c.args.s.number 0) (sym c.has_fallen.ensures ∙ c.if-has_fallen.true))

pub returns-in-Some : goal.returns-in-Some
unfolding line_played
returns-in-Some c =
    let a = c.args in
    simp (not-false (eqb a.s.number 0) (sym c.has_fallen.ensures ∙ c.if-has_fallen.false))
    (c.play_event.ensures
    ∙ sym (ap (meaning_played a.s) (said_event (event_of (text_of a.l)) _ c.in-Some.ensures)))

pub returns-in-None : goal.returns-in-None
unfolding line_played
returns-in-None c =
    let a = c.args in
    simp (not-false (eqb a.s.number 0) (sym c.has_fallen.ensures ∙ c.if-has_fallen.false))
    (c.stop.ensures ∙ sym (ap (meaning_played a.s) (said_nothing (event_of (text_of a.l)) c.in-None.ensures)))

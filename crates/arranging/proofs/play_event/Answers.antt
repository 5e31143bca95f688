-- `arranging::play_event` meets its contract: the code tests what spoils the log, then raises the counts by the record
-- after the event, unless the answer was none.
-- Assumes nothing.
use mathlib.Core.Path.{◌∙◌, sym}
use Rattle.arranging.specs.Arranging.{spoils}
use Rattle.arranging.specs.Run.{event_played}
use Rattle.arranging.proofs.play_event.Goals as goal

pub returns-then-ends_mip-loses_note : goal.returns-then-ends_mip-loses_note
unfolding event_played spoils
returns-then-ends_mip-loses_note c =
    let a = c in
    simp (
      rw (
        a.ends_mip.ensures,
        a.loses_note.ensures,
        a.apply-answer.ensures,
      ) at a.if-ends_mip-loses_note.true,
      c.stop.ensures,
    )

pub returns-then-is_quiet : goal.returns-then-is_quiet
unfolding event_played spoils
returns-then-is_quiet c =
    let a = c in
    let e = a.apply-answer.ensures in
    simp (
      rw (a.ends_mip.ensures, a.loses_note.ensures, e) at a.if-ends_mip-loses_note.false,
      rw e at (sym c.is_quiet.ensures ∙ c.if-is_quiet.true),
      c.one_more-lines.ensures,
      e,
    )

pub returns : goal.returns
unfolding event_played spoils
returns c =
    let q = c in
    let a = q in
    let e = a.apply-answer.ensures in
    simp (
      rw (a.ends_mip.ensures, a.loses_note.ensures, e) at a.if-ends_mip-loses_note.false,
      rw e at (sym q.is_quiet.ensures ∙ q.if-is_quiet.false),
      c.raise-most.ensures,
      q.one_more-lines.ensures,
      e,
    )

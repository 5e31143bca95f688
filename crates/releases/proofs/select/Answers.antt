-- `releases::select` meets its contract: each case selects by its fields the generators that its clause of the
-- definition names.
-- Assumes nothing.
use mathlib.Core.Bool.{and-true, or-false}
use Rattle.releases.specs.Releases.{changes}
use Rattle.releases.specs.Selection.{selects}
use Rattle.releases.proofs.select.Goals as goal

pub returns-in-ReleaseNote : goal.returns-in-ReleaseNote
unfolding selects changes
returns-in-ReleaseNote c = λ x. simp c.in-ReleaseNote.is

pub returns-in-ReleaseChannel : goal.returns-in-ReleaseChannel
unfolding selects changes
returns-in-ReleaseChannel c = λ x. simp (c.in-ReleaseChannel.is, and-true)

pub returns-in-NoteOff : goal.returns-in-NoteOff
unfolding selects changes
returns-in-NoteOff c = λ x. simp (c.in-NoteOff.is, or-false)

pub returns-in-AllNotesOff : goal.returns-in-AllNotesOff
unfolding selects changes
returns-in-AllNotesOff c = λ x. simp (c.in-AllNotesOff.is, or-false, and-true)

pub returns-in-PedalUp : goal.returns-in-PedalUp
unfolding selects changes
returns-in-PedalUp c = λ x. simp (c.in-PedalUp.is, and-true)

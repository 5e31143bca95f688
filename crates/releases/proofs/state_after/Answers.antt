-- `releases::state_after` meets its contract: each case of the enum has its clause of the definition.
-- Assumes nothing.
use Rattle.releases.specs.Releases.{state_after}
use Rattle.releases.proofs.state_after.Goals as goal

pub returns-in-ReleaseNote : goal.returns-in-ReleaseNote
unfolding state_after
returns-in-ReleaseNote c = simp c.in-ReleaseNote.is

pub returns-in-ReleaseChannel : goal.returns-in-ReleaseChannel
unfolding state_after
returns-in-ReleaseChannel c = simp c.in-ReleaseChannel.is

pub returns-in-NoteOff : goal.returns-in-NoteOff
unfolding state_after
returns-in-NoteOff c = simp (c.in-NoteOff.is, c.key_up.ensures)

pub returns-in-AllNotesOff : goal.returns-in-AllNotesOff
unfolding state_after
returns-in-AllNotesOff c = simp (c.in-AllNotesOff.is, c.key_up-in-AllNotesOff.ensures)

pub returns-in-PedalUp : goal.returns-in-PedalUp
unfolding state_after
returns-in-PedalUp c = simp c.in-PedalUp.is

-- `candidates::is_wanted` meets its contract: each case of the enum has its clause of the definition.
-- Assumes nothing.
use Rattle.candidates.specs.Candidates.{wanted}
use Rattle.candidates.proofs.is_wanted.Goals as goal

pub returns-in-Releasing : goal.returns-in-Releasing
unfolding wanted
returns-in-Releasing c = simp c.in-Releasing.is

pub returns-in-SustainedOn : goal.returns-in-SustainedOn
unfolding wanted
returns-in-SustainedOn c = simp c.in-SustainedOn.is

pub returns-in-HeldOn : goal.returns-in-HeldOn
unfolding wanted
returns-in-HeldOn c = simp c.in-HeldOn.is

pub returns-in-BusyOn : goal.returns-in-BusyOn
unfolding wanted
returns-in-BusyOn c = simp (c.in-BusyOn.is, c.is_busy.ensures)

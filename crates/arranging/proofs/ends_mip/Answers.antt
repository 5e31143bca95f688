-- `arranging::ends_mip` meets its contract: each kind of event has its clause of the definition.
-- Assumes nothing.
use Rattle.arranging.specs.Arranging.{ends_mip}
use Rattle.arranging.proofs.ends_mip.Goals as goal

pub returns-in-Byte : goal.returns-in-Byte
unfolding ends_mip
returns-in-Byte c = simp (c.in-Byte.is, c.ends_mip_at.ensures)

pub returns-in-Report : goal.returns-in-Report
unfolding ends_mip
returns-in-Report c = rw c.in-Report.is

-- `masking::mask` meets its contract: the marks are those of the newly masked channels.
-- Assumes nothing.
use Rattle.masking.proofs.Marked.{mask_of}
use Rattle.masking.proofs.mask.Goals as goal

pub returns : goal.returns
returns c =
    let a = c.args in
    simp c.release.ensures (mask_of a.polyphony a.old a.new a.generators c.newly_masked-gone.result c.newly_masked-gone.ensures)

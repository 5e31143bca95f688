-- `text::put_bytes`: before the byte at i the bytes before it are put, as hexadecimal digits.
-- Assumes nothing.
use mathlib.Core.Path.{refl, ◌∙◌}
use Rattle.text.specs.Text.{hexadecimals}
use Rattle.text.proofs.Joined.{nothing_put}
use Rattle.text.proofs.Hexadecimal.{hex_next, hex_end}
use Rattle.text.proofs.put_bytes.Goals as goal

pub loop-i-init : goal.loop-i-init
unfolding hexadecimals
loop-i-init c = (refl, nothing_put _ _)

pub loop-i-preserved : goal.loop-i-preserved
loop-i-preserved c =
    let h = c.put_hex-k in
    let b = c.put_blank-l in
    let i = c.loop-i.invariant in (h.auto.page ∙ b.auto.page ∙ i.0, hex_next _ _ i.1 c.loop-i-test.true b.ensures h.ensures)

pub returns : goal.returns
returns c = hex_end _ _ c.loop-i.invariant.1 c.loop-i-test.false

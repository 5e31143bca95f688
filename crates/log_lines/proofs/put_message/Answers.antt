-- `log_lines::put_message`: the bytes of the message where no number fell, and nothing else.
-- Assumes nothing.
use native.Mathlib.Omega.{arith}
use mathlib.Core.Path.{refl}
use borrow.Author.Tests.{eq-eqb, ne_eqb}
use Rattle.text.proofs.Joined.{nothing_put}
use Rattle.log_lines.specs.LogLines.{message_of}
use Rattle.log_lines.proofs.Room.{stands_whole}
use Rattle.log_lines.proofs.Sizes.{bytes_38}
use Rattle.log_lines.proofs.put_message.Goals as goal

pub returns-then-w-ne0 : goal.returns-then-w-ne0
unfolding message_of
returns-then-w-ne0 c = rw (ne_eqb _ _ c.if-w-ne0.true) (record { put = nothing_put _ _; page_after = λ h. refl })

pub returns : goal.returns
unfolding message_of
returns c =
    let n = bytes_38 c.args.w c.well_formed.1.0 in
    let p = c.put.ensures in
    rw (eq-eqb _ _ c.if-w-ne0.false)
    (record { put = p; page_after = λ h. stands_whole 38 _ (omega arith) _ p h })

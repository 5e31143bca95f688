-- `pitch::raised` meets its contract: `Floor`'s law of the position.
-- Assumes nothing.
use Prim.Native.Nat.{◌*◌}
use Rattle.pitch.proofs.Floor.{position_of, raised_below}
use borrow.Author.Rules.{rules}
use Rattle.pitch.proofs.raised.Goals as goal

pub returns : goal.returns
returns c =
    let a = c.args in (
      position_of a.key a.sensitivity a.bend (search rules),
      raised_below a.key (16 * a.sensitivity) a.bend (search rules) (search rules) (search rules),
    )

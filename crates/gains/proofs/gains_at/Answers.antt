-- `gains::gains_at` meets its contract: a gain at each of the two weights.
-- Assumes nothing.
use mathlib.Core.Path.{◌≡◌, subst}
use Prim.Native.Nat.{ℕ}
use lib.Ieee.{Float}
use Rattle.gains.specs.Gains.{Near}
use Rattle.gains.proofs.gains_at.Goals as goal

-- what is near with the number read is near with the weight
with-weight : (e v n w : ℕ) (x : Float) → n ≡ w → Near e v n x → Near e v w x
with-weight e v n w x h = subst (λ (m : ℕ). Near e v m x) h

pub returns : goal.returns
returns c =
    let left = c.weight_at-left.ensures.0 in
    let right = c.weight_at-right.ensures.0 in (
      with-weight _ _ _ _ c.gain.result left c.gain.ensures,
      with-weight _ _ _ _ c.gain-2.result right c.gain-2.ensures,
    )

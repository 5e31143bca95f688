-- `pitch_lines::put_octave`: a comma, with the sign behind it of an octave below 0, and its amount.
-- Assumes nothing.
use mathlib.Core.Path.{◌≡◌, refl}
use mathlib.Core.Bool.{true, false, true≢false}
use mathlib.Core.List.{[], ◌∷◌, ◌++◌}
use native.Mathlib.Omega.{arith}
use borrow.Author.Tests.{ltb-true}
use lib.IntN.{ℤ, pos, negsuc, nat_abs}
use lib.Signed.{lt_z}
use mir.Syntax.{w8}
use mir.Facts.{to_z-of_z}
use Rattle.text.specs.Text.{decimal}
use Rattle.text.proofs.Joined.{joined}
use Rattle.pitch_lines.specs.PitchLines.{signed}
use Rattle.pitch_lines.proofs.put_octave.Goals as goal
use Rattle.pitch_lines.proofs.put_octave.Goals.{then-octave-lt0, else-octave-lt0}

below_0 : (z : ℤ) → lt_z z (pos 0) ≡ true → 44 ∷ signed z ≡ (44 ∷ 45 ∷ []) ++ decimal (nat_abs z)
below_0 (pos n) e = let h = ltb-true n 0 e in absurd (omega arith)
below_0 (negsuc n) e = refl

from_0 : (z : ℤ) → lt_z z (pos 0) ≡ false → 44 ∷ signed z ≡ (44 ∷ []) ++ decimal (nat_abs z)
from_0 (pos n) e = refl
from_0 (negsuc n) e = absurd (true≢false e)

pub returns : goal.returns
returns c =
    let back = to_z-of_z {w = w8} {z = c.args.octave} c.ranges.octave in
    let d = rw (c.from.ensures, c.unsigned_abs.ensures.value, back) at c.put_number.ensures in
    elim c.if-octave-lt0.branch [
      | then-octave-lt0 w ↦
          rw (below_0 _ (rw back at w.if-octave-lt0.true)) (joined w.put-k.ensures (rw (w.page-is, w.k-is) at d))
      | else-octave-lt0 w ↦
          rw (from_0 _ (rw back at w.if-octave-lt0.false))
          (joined w.put-k-else-octave-lt0.ensures (rw (w.page-is, w.k-is) at d))
    ]

-- What is told of gains in plain numbers bites: the number, and the gains of an accepted and of a refused call. A
-- definition loosened behind its name would not give these facts.
-- Assumes nothing.
use mathlib.Core.Path.{◌≡◌, ap}
use mathlib.Core.Bool.{false}
use Prim.Native.Nat.{◌*◌}
use lib.IntN.{pos}
use lib.Ieee.{fin, of_bits}
use Rattle.channels.specs.declared.Channel.{Channel}
use Rattle.gains.specs.declared.Gains.{Gains}
use Rattle.gains.specs.Within.{Within}
use Rattle.gains.specs.Gains.{weight}
use Rattle.numbers.specs.declared.GainNumbers.{GainNumbers}
use Rattle.numbers.specs.Numbers.{GainsTold, GainsToldOf}

-- full level, hard right and hard left: 260144641 is 127 to the power 4
pub told-right : (r : GainNumbers) → GainsTold 127 127 127 r
    → Within 1000000 r.right (260144641 * 32768) (260144641 * 32768)
unfolding weight
told-right r h = h.1.1.0

pub told_left : (r : GainNumbers) → GainsTold 127 127 1 r
    → Within 1000000 r.left (260144641 * 32768) (260144641 * 32768)
unfolding weight
told_left r h = h.1.0.0

pub told_number : (r : GainNumbers) → GainsTold 0 0 128 r → r.number ≡ 24
told_number r h = h.0

pub told-silent : (r : GainNumbers) → GainsTold 0 0 128 r
    → (r.left ≡ fin false 0 (pos 0)) × (r.right ≡ fin false 0 (pos 0))
unfolding of_bits
told-silent r h = (ap (λ (g : Gains). g.left) h.1, ap (λ (g : Gains). g.right) h.1)

pub told_of_a-channel : (c : Channel) (r : GainNumbers)
    → GainsToldOf c r → GainsTold c.expression c.volume c.pan r
told_of_a-channel c r h = h

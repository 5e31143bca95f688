-- A line as it is told: one more of what is told is what is told of one more.
-- Assumes nothing.
use mathlib.Core.Path.{◌≡◌}
use Prim.Native.Nat.{ℕ, ◌+◌}
use native.Mathlib.Omega.{arith}
use Rattle.arranging.specs.Arranging.{told}
use Rattle.arranging.specs.Run.{counted}

pub told_more : (n : ℕ) → counted (told n) ≡ told (n + 1)
told_more n = omega arith

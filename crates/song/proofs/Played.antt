-- A list of bytes, and one more: the thefts among them.
-- Assumes nothing.
use mathlib.Core.Path.{◌≡◌}
use mathlib.Core.List.{List, [], ◌∷◌, ◌++◌}
use Prim.Native.Nat.{ℕ, ◌+◌}
use native.Mathlib.Omega.{arith}
use Rattle.loops.specs.Cases.{bit}
use Rattle.device.specs.declared.Device.{Device}
use Rattle.device.specs.Device.{byte_taken, after_bytes}
use Rattle.song.specs.Song.{is_theft, thefts}

pub thefts_snoc : (d : Device) (l : List ℕ) (b : ℕ)
    → thefts d (l ++ (b ∷ [])) ≡ thefts d l + bit (is_theft (byte_taken (after_bytes d l) b).answer)
unfolding after_bytes thefts
thefts_snoc d [] b = omega arith
thefts_snoc d (x ∷ l) b = let h = thefts_snoc (byte_taken d x).device l b in omega arith

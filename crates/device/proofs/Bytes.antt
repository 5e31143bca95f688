-- A list of bytes, and one more: the last byte finds what the others left.
-- Assumes nothing.
use Prim.Native.Nat.{ℕ}
use mathlib.Core.Path.{◌≡◌, refl}
use mathlib.Core.List.{List, [], ◌∷◌, ◌++◌}
use Rattle.device.specs.declared.Device.{Device}
use Rattle.device.specs.Device.{byte_taken, after_bytes}

pub after_snoc : (d : Device) (l : List ℕ) (b : ℕ)
    → after_bytes d (l ++ (b ∷ [])) ≡ (byte_taken (after_bytes d l) b).device
unfolding after_bytes
after_snoc d [] b = refl
after_snoc d (x ∷ l) b = after_snoc (byte_taken d x).device l b

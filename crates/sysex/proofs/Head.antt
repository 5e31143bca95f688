-- The tests of a SysEx's data bytes are those of the first n bytes that the parser holds: where there are fewer than
-- four, each test fails either way.
-- Assumes nothing.
use mathlib.Core.Path.{◌≡◌, refl}
use mathlib.Core.Bool.{Bool, true, false, ◌&&◌}
use mathlib.Core.List.{List}
use Prim.Native.Nat.{ℕ, ◌≤◌}
use native.Mathlib.Omega.{arith}
use borrow.Author.Tests.{leb-true, leb-false, le-leb, lt-leb, eqb-true, eqb-false, eq-eqb, ne_eqb}
use lib.Dec.{leb, eqb}
use lib.ListN.{length, take, length-take}
use lib.Seq.{get_or-take}
use Rattle.sysex.specs.SysEx.{starts_with, is_mip, is_system_on}

module _ (id n : ℕ) (l : List ℕ) (size : length l ≡ 37) where
  head_of : (a b c : ℕ) → 4 ≤ n → starts_with id a b c (take n l) ≡ starts_with id a b c l
  head_of a b c h = rw (
    get_or-take n l 0 0 (omega arith),
    get_or-take n l 1 0 (omega arith),
    get_or-take n l 2 0 (omega arith),
    get_or-take n l 3 0 (omega arith),
  )

  pub mip-head : is_mip id (take n l) ≡ leb 4 n && starts_with id 0x7F 0x0B 0x01 l
  unfolding is_mip
  mip-head = go (leb 4 n) refl
    where
      go : (t : Bool) → leb 4 n ≡ t
          → leb 4 (length (take n l)) && starts_with id 0x7F 0x0B 0x01 (take n l) ≡ t && starts_with id 0x7F 0x0B 0x01 l
      go true t =
          let h = leb-true 4 n t in
          let m = length-take n l in
          rw (le-leb 4 (length (take n l)) (omega arith)) (head_of 0x7F 0x0B 0x01 h)
      go false t =
          let h = leb-false 4 n t in
          let m = length-take n l in
          rw (lt-leb 4 (length (take n l)) (omega arith))

  pub system_on_head : is_system_on id (take n l) ≡ eqb n 4 && starts_with id 0x7E 0x09 0x01 l
  unfolding is_system_on
  system_on_head = go (eqb n 4) refl
    where
      go : (t : Bool) → eqb n 4 ≡ t
          → eqb (length (take n l)) 4 && starts_with id 0x7E 0x09 0x01 (take n l) ≡ t && starts_with id 0x7E 0x09 0x01 l
      go true t =
          let h = eqb-true n 4 t in
          let m = length-take n l in
          rw (eq-eqb (length (take n l)) 4 (omega arith)) (head_of 0x7E 0x09 0x01 (omega arith))
      go false t =
          let h = eqb-false n 4 t in
          let m = length-take n l in
          rw (ne_eqb (length (take n l)) 4 (λ q. h (omega arith)))

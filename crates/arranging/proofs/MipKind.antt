-- A SysEx is a MIP message where that is its kind.
-- Assumes nothing.
use Rattle.std.specs.Prelude.{if◌then◌else◌}
use mathlib.Core.Path.{◌≡◌, refl}
use mathlib.Core.Bool.{Bool, true, false}
use mathlib.Core.List.{List}
use Prim.Native.Nat.{ℕ}
use Rattle.loops.proofs.Tests.{impossible}
use Rattle.sysex.specs.declared.Kind.TheVariants.{Mip, SystemOn, Other}
use Rattle.sysex.specs.SysEx.{is_mip, is_system_on, kind_of}

module _ (id : ℕ) (l : List ℕ) where
  pub mip_yes : kind_of id l ≡ Mip → is_mip id l ≡ true
  unfolding kind_of
  mip_yes h = go (is_mip id l) (is_system_on id l) h
    where
      go : (a b : Bool) → (if a then Mip else if b then SystemOn else Other) ≡ Mip → a ≡ true
      go true b h = refl
      go false true h = impossible (cc)
      go false false h = impossible (cc)

  pub mip_no : (kind_of id l ≡ Mip → ⊥) → is_mip id l ≡ false
  unfolding kind_of
  mip_no h = go (is_mip id l) h
    where
      go : (a : Bool) → ((if a then Mip else if is_system_on id l then SystemOn else Other) ≡ Mip → ⊥) → a ≡ false
      go true h = absurd (h refl)
      go false h = refl

-- What is no channel is not newly masked; the states that the code makes are those of the definition.
-- Assumes nothing.
use Rattle.std.specs.Prelude.{if◌then◌else◌}
use mathlib.Core.Path.{◌≡◌, refl, ap}
use mathlib.Core.Bool.{Bool, true, false, ◌&&◌, not, and-false}
use mathlib.Core.List.{List}
use Prim.Native.Nat.{ℕ, ◌≤◌}
use native.Mathlib.Omega.{arith}
use borrow.Author.Tests.{lt-leb, le-leb}
use lib.Dec.{leb}
use lib.ListN.{get_or}
use Rattle.shares.specs.Shares.{share_of, is_masked}
use Rattle.loops.specs.Passes.{up_to}
use Rattle.loops.proofs.Fill.{up_to-same}
use Rattle.table.specs.declared.Table.{Table}
use Rattle.generators.specs.declared.Generators.{Generators}
use Rattle.generators.specs.Generators.{at, is_busy}
use Rattle.releases.specs.Releases.{with_states}
use Rattle.masking.specs.Masking.{is_newly_masked, masked}

module _ (p : ℕ) (old new : Table) where
  pub no_channel : (c : ℕ) → 17 ≤ c → is_newly_masked p old new c ≡ false
  no_channel c k = rw (lt-leb c 16 (omega arith), and-false (leb 1 c))

  -- a channel that the old table leaves unmasked, and the new one not
  pub newly : (c : ℕ) (b a : Bool) → 1 ≤ c → c ≤ 16 → b ≡ not (is_masked (share_of old p c))
      → a ≡ not (is_masked (share_of new p c)) → (b && not a) ≡ is_newly_masked p old new c
  newly c b a h k e d =
      rw (e, d, le-leb 1 c h, le-leb c 16 k) (go (is_masked (share_of old p c)) (is_masked (share_of new p c)))
    where
      go : (x y : Bool) → (not x && not (not y)) ≡ (true && true) && (not x && y)
      go true y = refl
      go false true = refl
      go false false = refl

  pub mask_of : (s : Generators) (gone : List Bool) → ((c : ℕ) → get_or gone c false ≡ is_newly_masked p old new c)
      → with_states s
      (up_to (λ g. if is_busy (at s g) && get_or gone (at s g).channel false then 3 else (at s g).state) 64)
      ≡ masked p old new s
  unfolding masked
  mask_of s gone mark = ap (with_states s) (up_to-same _ _ 64 (λ g k. rw (mark (at s g).channel)))

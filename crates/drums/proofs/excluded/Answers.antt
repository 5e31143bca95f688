-- `drums::excluded` meets its contract, by what `group` says of the two keys.
-- Assumes nothing.
use Rattle.std.specs.Prelude.{is_some, if◌then◌else◌, Some, None}
use Rattle.std.specs.Option.{option_eq}
use mathlib.Core.Path.{◌≡◌, refl, sym, ◌∙◌}
use mathlib.Core.Bool.{Bool, true, false, not, ◌&&◌}
use Prim.Native.Nat.{ℕ}
use borrow.Author.Tests.{eqb-true, eqb-false, ne_eqb}
use lib.Dec.{eqb}
use Rattle.drums.specs.Drums.{group_of, excludes}
use Rattle.drums.proofs.excluded.Goals as goal

-- two groups are one, as options and as numbers
one_group : (a : Bool) (m n : ℕ)
    → a && is_some (if eqb n 0 then None else Some n)
    && option_eq eqb (if eqb m 0 then None else Some m) (if eqb n 0 then None else Some n)
    ≡ a && (not (eqb n 0) && eqb m n)
one_group a m n = go a (eqb n 0) refl (eqb m 0) refl
  where
    go : (a b : Bool) → eqb n 0 ≡ b → (d : Bool) → eqb m 0 ≡ d
        → a && is_some (if b then None else Some n)
        && option_eq eqb (if d then None else Some m) (if b then None else Some n)
        ≡ a && (not b && eqb m n)
    go false b e d f = refl
    go true true e d f = refl
    go true false e true f = sym (ne_eqb m n (λ (q : m ≡ n). eqb-false n 0 e (sym q ∙ eqb-true m 0 f)))
    go true false e false f = refl

pub returns : goal.returns
unfolding excludes
returns c =
    simp (c.is_some.ensures, c.eq.ensures, c.group.ensures, c.group-group_of_key.ensures)
    (one_group (not (eqb c.args.other c.args.key)) (group_of c.args.other) (group_of c.args.key))

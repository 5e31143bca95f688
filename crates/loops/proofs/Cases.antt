-- What holds of both sides of a choice holds of the choice, whichever way its test goes.
-- Assumes nothing.
use Rattle.std.specs.Prelude.{if◌then◌else◌}
use mathlib.Core.Bool.{Bool, true, false}

pub by_both : {A : Type 0} (P : A → Type 0) (b : Bool) (x y : A) → P x → P y → P (if b then x else y)
by_both P true x y p q = p
by_both P false x y p q = q

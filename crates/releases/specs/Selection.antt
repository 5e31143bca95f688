-- A selection of generators by plain numbers, so that a pass over them has no branch: inside this crate alone.
use Rattle.std.specs.Prelude.{ℕ, Bool, true, ◌&&◌, ◌||◌, eqb}
use Rattle.generators.specs.Generators.{Generator, is_held, is_sustained, is_on}
use Rattle.releases.specs.declared.Keys.{Keys}
use Rattle.releases.specs.declared.Keys.TheVariants.{One, Every}
use Rattle.releases.specs.declared.Selection.{Selection}

abbrev pub is_one_of : Keys → ℕ → Bool
is_one_of (One k) j = eqb j k
is_one_of Every j = true

unfoldable pub selects : Selection → Generator → Bool
selects w x =
    (w.held && is_held x || w.sustained && is_sustained x) && is_on w.channel x && is_one_of w.keys x.key

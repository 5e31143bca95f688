-- R2.8: what is busy on a channel that the new table masks, and the old one did not, is released; R2.9: all else stays.
use Rattle.std.specs.Prelude.{ℕ, Bool, ◌&&◌, not, if◌then◌else◌}
use Rattle.loops.specs.Passes.{up_to}
use Rattle.table.specs.declared.Table.{Table}
use Rattle.shares.specs.Shares.{share_of, is_masked, is_channel}
use Rattle.generators.specs.declared.Generators.{Generators}
use Rattle.generators.specs.Generators.{at, releasing, is_busy}
use Rattle.releases.specs.Releases.{with_states}

abbrev pub is_newly_masked : ℕ → Table → Table → ℕ → Bool
is_newly_masked p old new c = is_channel c && (not (is_masked (share_of old p c)) && is_masked (share_of new p c))

unfoldable pub masked : ℕ → Table → Table → Generators → Generators
masked p old new s =
    with_states s
    (up_to (λ g. if is_busy (at s g) && is_newly_masked p old new (at s g).channel then releasing
    else (at s g).state) 64)

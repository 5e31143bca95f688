-- The generators that become idle: by a report, by controller 120, by a drum of their group.
use Rattle.std.specs.Prelude.{ℕ, Bool, ◌&&◌, not, eqb, if◌then◌else◌}
use Rattle.loops.specs.Passes.{up_to, filter_by}
use Rattle.drums.specs.Drums.{excludes}
use Rattle.ages.specs.Ages.{oldest_first, ages_of}
use Rattle.generators.specs.declared.Generators.{Generators}
use Rattle.generators.specs.Generators.{Generator, at, idle, is_sounding, is_on}
use Rattle.silence.specs.declared.Leaving.{Leaving}
use Rattle.silence.specs.declared.Leaving.TheVariants.{One, Channel, Group}

-- One, R7.1: the generator that is reported; Channel, R6.10: those of the channel; Group, R5.3: those of the channel
-- whose key is another one of the new key's group
unfoldable pub is_among : Leaving → ℕ → Generator → Bool
is_among (One h) g x = eqb g h
is_among (Channel c) g x = is_on c x
is_among (Group c k) g x = is_on c x && excludes k x.key

unfoldable pub leaves : Leaving → ℕ → Generator → Bool
leaves l g x = is_sounding x && is_among l g x

abbrev pub goes : Leaving → Generators → ℕ → Bool
goes l s g = leaves l g (at s g)

-- R1.5: an idle generator carries channel 0 and key 0; R1.7: the others keep their order of age
unfoldable pub silenced : Leaving → Generators → Generators
silenced l s =
    record {
      state = up_to (λ g. if goes l s g then idle else (at s g).state) 64;
      channel = up_to (λ g. if goes l s g then 0 else (at s g).channel) 64;
      key = up_to (λ g. if goes l s g then 0 else (at s g).key) 64;
      ages = ages_of (filter_by (λ g. not (goes l s g)) (oldest_first s.ages));
    }

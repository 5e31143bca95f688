-- The generators that a note-on may take, and the counting of a channel's notes.
use Rattle.std.specs.Prelude.{ℕ, Bool, ◌&&◌, eqb, if◌then◌else◌, Option}
use Rattle.loops.specs.Cases.{bit, at_most, given}
use Rattle.loops.specs.Passes.{up_to, total, first_of}
use Rattle.ages.specs.Ages.{oldest_first}
use Rattle.generators.specs.declared.Generators.{Generators}
use Rattle.generators.specs.Generators.{Generator, at, is_idle, is_held, is_sustained, is_releasing, is_on, is_busy_on}
use Rattle.candidates.specs.declared.Want.{Want}
use Rattle.candidates.specs.declared.Want.TheVariants.{Releasing, SustainedOn, HeldOn, BusyOn}

-- R5.5: the idle generator of lowest number, among the first P
unfoldable pub lowest_idle : Generators → ℕ → Option ℕ
lowest_idle s p = given (first_of (λ g. is_idle (at s g)) (up_to (λ g. g) (at_most 64 p)))

-- R5.6: releasing ones; R5.9: sustained and held ones of a channel; R5.7: busy ones of a channel
unfoldable pub wanted : Want → Generator → Bool
wanted Releasing x = is_releasing x
wanted (SustainedOn c) x = is_sustained x && is_on c x
wanted (HeldOn c) x = is_held x && is_on c x
wanted (BusyOn c) x = is_busy_on c x

unfoldable pub oldest : Want → Generators → Option ℕ
oldest w s = given (first_of (λ g. wanted w (at s g)) (oldest_first s.ages))

-- R5.9: which of a channel's busy generators are stolen first: the sustained ones, and the held ones where there is
-- none sustained
unfoldable pub stolen_first : Generators → ℕ → Want
stolen_first s c = if eqb (total (λ g. bit (wanted (SustainedOn c) (at s g))) 64) 0 then HeldOn c else SustainedOn c

-- R5.7: the busy generators of a channel
unfoldable pub busy_count : Generators → ℕ → ℕ
busy_count s c = total (λ g. bit (is_busy_on c (at s g))) 64

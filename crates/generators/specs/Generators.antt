-- The generators, by their number g (R1.3 to R1.5).
use Rattle.std.specs.Prelude.{ℕ, Bool, ◌&&◌, ◌||◌, not, [], get_or, set, replicate, eqb, ltb, if◌then◌else◌}
use Rattle.ages.specs.Ages.{ages_of, newest}
use Rattle.generators.specs.declared.Generators.{Generators}

-- ---- one generator

-- R1.3, R18.3: the number of each state
abbrev pub idle : ℕ
idle = 0

abbrev pub held : ℕ
held = 1

abbrev pub sustained : ℕ
sustained = 2

abbrev pub releasing : ℕ
releasing = 3

pub record Generator : Type 0 where
  pub state : ℕ
  pub channel : ℕ
  pub key : ℕ

abbrev pub generator : ℕ → ℕ → ℕ → Generator
generator x c k = record { state = x; channel = c; key = k }

abbrev pub at : Generators → ℕ → Generator
at s g = generator (get_or s.state g idle) (get_or s.channel g 0) (get_or s.key g 0)

abbrev pub is_idle : Generator → Bool
is_idle x = eqb x.state idle

abbrev pub is_held : Generator → Bool
is_held x = eqb x.state held

abbrev pub is_sustained : Generator → Bool
is_sustained x = eqb x.state sustained

abbrev pub is_releasing : Generator → Bool
is_releasing x = eqb x.state releasing

-- R1.4: busy and sounding
abbrev pub is_busy : Generator → Bool
is_busy x = is_held x || is_sustained x

abbrev pub is_sounding : Generator → Bool
is_sounding x = not (is_idle x)

abbrev pub is_on : ℕ → Generator → Bool
is_on c x = eqb x.channel c

abbrev pub is_busy_on : ℕ → Generator → Bool
is_busy_on c x = is_busy x && is_on c x

-- ---- assignment

-- R5.11: held, with channel and key, and the newest
unfoldable pub assigned : ℕ → ℕ → ℕ → Generators → Generators
assigned g c k s =
    if ltb g 64
    then
    record {
      state = set s.state g held;
      channel = set s.channel g c;
      key = set s.key g k;
      ages = newest s.ages g;
    }
    else s

-- R1.10, R1.13: a fresh record: all 64 places are idle; a device of polyphony P uses the first P, and the others stay
-- so
unfoldable pub silent : Generators
silent = record { state = replicate 64 idle; channel = replicate 64 0; key = replicate 64 0; ages = ages_of [] }

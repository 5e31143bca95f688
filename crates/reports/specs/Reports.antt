-- R7.1: a generator has rung out, as the tone generator reports.
use Rattle.std.specs.Prelude.{ℕ, leb, if◌then◌else◌}
use Rattle.generators.specs.Generators.{at, is_idle}
use Rattle.refusals.specs.declared.Refusal.TheVariants as refusal
use Rattle.silence.specs.declared.Leaving.TheVariants.{One}
use Rattle.silence.specs.Silence.{silenced}
use Rattle.instrument.specs.declared.Instrument.{Instrument}
use Rattle.instrument.specs.Instrument.{with_generators}
use Rattle.playing.specs.declared.Answer.TheVariants.{Done, Number}
use Rattle.playing.specs.declared.Reply.{Reply}
use Rattle.playing.specs.Playing.{replied}

-- R7.2: first R8.12, a generator that there is not, then R8.13, an idle one; both leave all as it is
unfoldable pub reported : Instrument → ℕ → Reply
reported i g =
    if leb i.polyphony g then replied (Number refusal.NoGenerator) i else
    if is_idle (at i.generators g) then replied (Number refusal.IdleGenerator) i else
    replied Done (with_generators i (silenced (One g) i.generators))

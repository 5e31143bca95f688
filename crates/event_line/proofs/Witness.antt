-- The definitions bite: lines and what they say, written out.
-- Assumes nothing.
use mathlib.Core.Path.{◌≡◌, refl}
use mathlib.Core.List.{[], ◌∷◌}
use mathlib.Core.Option.{some, none}
use Rattle.loops.specs.Passes.{up_to, first_of}
use Rattle.events.specs.declared.Event.TheVariants.{Byte, Report}
use Rattle.event_line.specs.Log.{decimal, line_of, loggable, event_of, lines_from, lines_of}

-- `b,144` and `e,5`
pub byte_line : line_of (Byte 144) ≡ 98 ∷ 44 ∷ 49 ∷ 52 ∷ 52 ∷ 0x0A ∷ []
unfolding line_of decimal
byte_line = refl

pub report_line : line_of (Report 5) ≡ 101 ∷ 44 ∷ 53 ∷ 0x0A ∷ []
unfolding line_of decimal
report_line = refl

-- `e,63` says a report, `e,64` nothing
pub last-generator : event_of (101 ∷ 44 ∷ 54 ∷ 51 ∷ 0x0A ∷ []) ≡ some (Report 63)
unfolding event_of first_of loggable up_to line_of decimal
last-generator = refl

pub no_generator_64 : event_of (101 ∷ 44 ∷ 54 ∷ 52 ∷ 0x0A ∷ []) ≡ none
unfolding event_of first_of loggable up_to line_of decimal
no_generator_64 = refl

-- an empty line, and a last one that is not ended
pub cut_behind : lines_of (0x0A ∷ 98 ∷ 44 ∷ 0x0A ∷ []) ≡ (0x0A ∷ []) ∷ (98 ∷ 44 ∷ 0x0A ∷ []) ∷ []
unfolding lines_from
cut_behind = refl

pub not_ended : lines_of (98 ∷ 44 ∷ 53 ∷ []) ≡ (98 ∷ 44 ∷ 53 ∷ []) ∷ []
unfolding lines_from
not_ended = refl

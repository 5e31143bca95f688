-- `pitch_lines::all`: before the byte at an index the bytes before it are answered.
-- Assumes nothing.
use mathlib.Core.Path.{◌≡◌}
use lib.ListN.{length, take}
use Rattle.text.specs.Text.{Put}
use Rattle.fields.specs.Line.{after_all}
use Rattle.pitch_lines.specs.PitchLines.{answers_to}
use Rattle.pitch_lines.proofs.all.Given as goal

abbrev pub invariant-loop-b : goal.invariant-loop-b
invariant-loop-b l =
    (length l.page ≡ length l.initial.page) × (l.k ≡ after_all l.initial.k (take l.b-index l.bytes))
    × Put l.initial.page 0 (answers_to l.initial.k (take l.b-index l.bytes)) l.used l.page

-- `pitch_lines::put_pitch`: four texts one behind the other.
-- Assumes nothing.
use borrow.Author.Rules.{rules}
use mir.Syntax.{w8}
use mir.Facts.{to_z-of_z}
use Rattle.text.proofs.Joined.{joined}
use Rattle.pitch_lines.specs.PitchLines.{pitch_fields}
use Rattle.pitch_lines.proofs.put_pitch.Goals as goal

pub returns : goal.returns
unfolding pitch_fields
returns c =
    let back = to_z-of_z {w = w8} {z = c.args.p.octave} (search rules) in
    joined
    (joined (rw back at c.put_octave-a.ensures) (joined c.put-b.ensures (rw c.from.ensures at c.put_number-c.ensures)))
    c.put.ensures

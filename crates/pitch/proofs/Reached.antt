-- What the claims speak of is there: the lowest and the highest pitch of all calls, and a floor that is not the
-- quotient rounded toward 0. Computed from the definitions; an entry by the table.
-- Assumes nothing.
use mathlib.Core.Path.{◌≡◌, refl}
use native.Mathlib.Omega.{arith}
use lib.IntN.{pos, negsuc}
use Rattle.std.specs.Prelude.{Ok}
use Rattle.pitch.specs.Pitch.{position, pitch_at, pitch_of, pitch_in, Lower}
use Rattle.pitch.proofs.Roots.{entry_at}
use Rattle.pitch.proofs.Rising.{higher_position_higher_pitch}

pub lowest : pitch_of 0 24 0 ≡ Ok (record { octave = negsuc 1; entry = 65536 })
unfolding pitch_of pitch_at position
lowest = rw (entry_at 0 (omega arith)) refl

pub highest : pitch_of 127 24 16383 ≡ Ok (record { octave = pos 12; entry = 97839 })
unfolding pitch_of pitch_at position
highest = rw (entry_at 111 (omega arith)) refl

pub just_below_centre : pitch_of 60 1 8191 ≡ Ok (record { octave = pos 4; entry = 130599 })
unfolding pitch_of pitch_at position
just_below_centre = rw (entry_at 191 (omega arith)) refl

-- the claim at work: one step of the bend more, from one octave into the next
pub a_step_up : Lower (pitch_in (pitch_of 60 1 8191)) (pitch_in (pitch_of 60 1 8192))
unfolding position
a_step_up = higher_position_higher_pitch 60 1 8191 60 1 8192 refl refl (record { lt = tt })

-- beside number 21
pub refused_octave : pitch_in (pitch_of 128 24 16383) ≡ record { octave = pos 0; entry = 65536 }
unfolding pitch_of
refused_octave = refl

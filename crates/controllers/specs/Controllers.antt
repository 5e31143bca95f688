-- Controller n with value v: what it leaves of its channel's numbers (R6.6, R6.8, R6.9, R6.11), and which notes it
-- ends (R6.7, R6.10 to R6.12).
use Rattle.std.specs.Prelude.{ℕ, Bool, ◌&&◌, ◌||◌, eqb, ltb, leb, if◌then◌else◌}
use Rattle.loops.specs.Cases.{at_most}
use Rattle.channels.specs.declared.Channel.{Channel}

-- R6.9: the sensitivity after controller 6
unfoldable pub data_entry : Channel → ℕ → ℕ
data_entry c v = if eqb c.rpn_msb 0 && eqb c.rpn_lsb 0 then at_most 24 v else c.sensitivity

-- R6.6: what each controller stores; R6.8: 98 and 99; R6.13: every other one, 38 among them, changes nothing
unfoldable pub stored : Channel → ℕ → ℕ → Channel
stored c n v =
    record {
      program = c.program;
      modulation = if eqb n 1 then v else c.modulation;
      volume = if eqb n 7 then v else c.volume;
      pan = if eqb n 10 then v else c.pan;
      expression = if eqb n 11 then v else c.expression;
      hold = if eqb n 64 then v else c.hold;
      rpn_msb = if eqb n 98 || eqb n 99 then 127 else if eqb n 101 then v else c.rpn_msb;
      rpn_lsb = if eqb n 98 || eqb n 99 then 127 else if eqb n 100 then v else c.rpn_lsb;
      bend_msb = c.bend_msb;
      bend_lsb = c.bend_lsb;
      sensitivity = if eqb n 6 then data_entry c v else c.sensitivity;
      bank_msb = if eqb n 0 then v else c.bank_msb;
      bank_lsb = if eqb n 32 then v else c.bank_lsb;
    }

-- R6.11: what 121 leaves
unfoldable pub reset : Channel → Channel
reset c =
    record {
      program = c.program;
      modulation = 0;
      volume = c.volume;
      pan = c.pan;
      expression = 127;
      hold = 0;
      rpn_msb = 127;
      rpn_lsb = 127;
      bend_msb = 64;
      bend_lsb = 0;
      sensitivity = c.sensitivity;
      bank_msb = c.bank_msb;
      bank_lsb = c.bank_lsb;
    }

-- the numbers after any controller; R6.13: 121 with another value than 0 changes nothing
unfoldable pub controlled : Channel → ℕ → ℕ → Channel
controlled c n v = if eqb n 121 && eqb v 0 then reset c else stored c n v

-- the controllers that end notes: R6.7, R6.11: hold below 64 and 121 lift the pedal; R6.10: 120 silences; R6.12: 123,
-- and whatever their value 124 to 127, are a note-off for each key
abbrev pub lifts_pedal : ℕ → ℕ → Bool
lifts_pedal n v = eqb n 64 && ltb v 64 || eqb n 121 && eqb v 0

abbrev pub silences_all : ℕ → ℕ → Bool
silences_all n v = eqb n 120 && eqb v 0

abbrev pub ends_all : ℕ → ℕ → Bool
ends_all n v = eqb n 123 && eqb v 0 || leb 124 n && leb n 127

-- R1.8: the thirteen numbers of a channel; program change and pitch bend; which bank is that of the drums.
use Rattle.std.specs.Prelude.{ℕ, Bool, true, false, eqb, if◌then◌else◌}
use Rattle.channels.specs.declared.Channel.{Channel}

-- R1.9: a fresh channel
unfoldable pub fresh : Channel
fresh =
    record {
      program = 0;
      modulation = 0;
      volume = 100;
      pan = 64;
      expression = 127;
      hold = 0;
      rpn_msb = 127;
      rpn_lsb = 127;
      bend_msb = 64;
      bend_lsb = 0;
      sensitivity = 2;
      bank_msb = 121;
      bank_lsb = 0;
    }

abbrev with_bank_msb : Channel → ℕ → Channel
with_bank_msb c v =
    record {
      program = c.program;
      modulation = c.modulation;
      volume = c.volume;
      pan = c.pan;
      expression = c.expression;
      hold = c.hold;
      rpn_msb = c.rpn_msb;
      rpn_lsb = c.rpn_lsb;
      bend_msb = c.bend_msb;
      bend_lsb = c.bend_lsb;
      sensitivity = c.sensitivity;
      bank_msb = v;
      bank_lsb = c.bank_lsb;
    }

-- R1.9: the fresh channel 10
unfoldable pub fresh_rhythm : Channel
fresh_rhythm = with_bank_msb fresh 120

-- R6.5: what a program change and a pitch bend store
abbrev pub with_program : Channel → ℕ → Channel
with_program c v =
    record {
      program = v;
      modulation = c.modulation;
      volume = c.volume;
      pan = c.pan;
      expression = c.expression;
      hold = c.hold;
      rpn_msb = c.rpn_msb;
      rpn_lsb = c.rpn_lsb;
      bend_msb = c.bend_msb;
      bend_lsb = c.bend_lsb;
      sensitivity = c.sensitivity;
      bank_msb = c.bank_msb;
      bank_lsb = c.bank_lsb;
    }

abbrev pub with_bend : Channel → ℕ → ℕ → Channel
with_bend c msb lsb =
    record {
      program = c.program;
      modulation = c.modulation;
      volume = c.volume;
      pan = c.pan;
      expression = c.expression;
      hold = c.hold;
      rpn_msb = c.rpn_msb;
      rpn_lsb = c.rpn_lsb;
      bend_msb = msb;
      bend_lsb = lsb;
      sensitivity = c.sensitivity;
      bank_msb = c.bank_msb;
      bank_lsb = c.bank_lsb;
    }

-- R6.15: whether a program change makes a rhythm channel, by the MSB of its bank; with another bank it is what it was
unfoldable pub rhythm_by : ℕ → Bool → Bool
rhythm_by msb was = if eqb msb 120 then true else if eqb msb 121 then false else was

-- R12.11: the thirteen numbers of a channel stay in MIDI's range, whatever is sent. A driver that asks for the gains by
-- a channel's numbers in the record is therefore never refused; for the pitch, sensitivity and bend are in their
-- ranges.
-- A byte is any number here: one above 255, which no u8 holds, is passed over like F8 to FF, so that nothing is asked
-- of the list.
-- Assumes nothing.
use Rattle.std.specs.Prelude.{ℕ, ◌≤◌, ◌≡◌, List, [], ◌∷◌, length}
use Rattle.channels.specs.declared.Channel.{Channel}
use Rattle.instrument.specs.Instrument.{channel_of}
use Rattle.device.specs.declared.Device.{Device}
use Rattle.device.specs.Device.{started}
use Rattle.events.specs.declared.Event.{Event}
use Rattle.events.specs.Events.{taken}

-- what a data byte can carry, 0 to 127; R6.9: a sensitivity of at most 24
pub record InRange (c : Channel) : Type 0 where
  pub program : c.program ≤ 127
  pub modulation : c.modulation ≤ 127
  pub volume : c.volume ≤ 127
  pub pan : c.pan ≤ 127
  pub expression : c.expression ≤ 127
  pub hold : c.hold ≤ 127
  pub rpn_msb : c.rpn_msb ≤ 127
  pub rpn_lsb : c.rpn_lsb ≤ 127
  pub bend_msb : c.bend_msb ≤ 127
  pub bend_lsb : c.bend_lsb ≤ 127
  pub sensitivity : c.sensitivity ≤ 24
  pub bank_msb : c.bank_msb ≤ 127
  pub bank_lsb : c.bank_lsb ≤ 127

-- R1.8: there are sixteen channels, and 1 to 16 are in range; R1.14: the kind of channel 11 is 0 or 1
pub record AllInRange (d : Device) : Type 0 where
  pub sixteen : length d.instrument.channels ≡ 16
  pub each : (c : ℕ) → 1 ≤ c → c ≤ 16 → InRange (channel_of d.instrument c)
  pub kind : d.instrument.kind ≤ 1

-- the record that a list of bytes and reports leads to
unfoldable pub after : Device → List Event → Device
after d [] = d
after d (e ∷ l) = after (taken d e).device l

-- R12.11: the claim, for every start, a refused one too, and every list
abbrev pub AlwaysInRange : Type 0
AlwaysInRange = (p id : ℕ) (l : List Event) → AllInRange (after (started p id).device l)

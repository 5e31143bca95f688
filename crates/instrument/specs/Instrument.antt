-- The record but for its parser (R1.11), so that what acts on a whole message knows no bytes.
use Rattle.std.specs.Prelude.{ℕ, ◌-◌, Bool, ◌&&◌, ◌||◌, List, eqb, leb, get_or, set, replicate}
use Rattle.loops.specs.Cases.{bit}
use Rattle.table.specs.declared.Table.{Table}
use Rattle.table.specs.Table.{start_table}
use Rattle.channels.specs.declared.Channel.{Channel}
use Rattle.channels.specs.Channel as of-channel
use Rattle.generators.specs.declared.Generators.{Generators}
use Rattle.generators.specs.Generators.{silent}
use Rattle.instrument.specs.declared.Instrument.{Instrument}

-- R1.8: the sixteen channels; R1.12: the wire carries the channel minus 1, which is its place here; R1.9: at place 9
-- stands channel 10
abbrev pub fresh_channels : List Channel
fresh_channels = set (replicate 16 of-channel.fresh) 9 of-channel.fresh_rhythm

unfoldable pub channel_at : List Channel → ℕ → Channel
channel_at l i = get_or l i of-channel.fresh

unfoldable pub replaced : List Channel → ℕ → Channel → List Channel
replaced l i c = set l i c

-- R1.10: a fresh record; R1.14: channel 11 is melody, kind 0; R1.2: P and the own ID stay in every record below
unfoldable pub fresh : ℕ → ℕ → Instrument
fresh p id =
    record {
      polyphony = p;
      id = id;
      table = start_table p;
      channels = fresh_channels;
      kind = 0;
      generators = silent;
    }

abbrev pub with_table : Instrument → Table → Instrument
with_table i t =
    record {
      polyphony = i.polyphony;
      id = i.id;
      table = t;
      channels = i.channels;
      kind = i.kind;
      generators = i.generators;
    }

abbrev pub with_channels : Instrument → List Channel → Instrument
with_channels i l =
    record {
      polyphony = i.polyphony;
      id = i.id;
      table = i.table;
      channels = l;
      kind = i.kind;
      generators = i.generators;
    }

-- R1.14: 1 for rhythm, 0 for melody
abbrev pub with_kind : Instrument → Bool → Instrument
with_kind i rhythm =
    record {
      polyphony = i.polyphony;
      id = i.id;
      table = i.table;
      channels = i.channels;
      kind = bit rhythm;
      generators = i.generators;
    }

abbrev pub with_generators : Instrument → Generators → Instrument
with_generators i s =
    record {
      polyphony = i.polyphony;
      id = i.id;
      table = i.table;
      channels = i.channels;
      kind = i.kind;
      generators = s;
    }

-- the record of channel c
unfoldable pub channel_of : Instrument → ℕ → Channel
channel_of i c = channel_at i.channels (c - 1)

unfoldable pub with_channel : Instrument → ℕ → Channel → Instrument
with_channel i c x = with_channels i (replaced i.channels (c - 1) x)

-- R6.3: whether the pedal of a channel is down
abbrev pub pedal_down : Instrument → ℕ → Bool
pedal_down i c = leb 64 (channel_of i c).hold

-- R5.12: the rhythm channels: 10, and 11 where its kind, R1.14, is rhythm
unfoldable pub is_rhythm : Instrument → ℕ → Bool
is_rhythm i c = eqb c 10 || eqb c 11 && eqb i.kind 1

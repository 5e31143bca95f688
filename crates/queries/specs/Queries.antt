-- R7.3: queries give an answer and no record.
use Rattle.std.specs.Prelude.{ℕ, Bool, leb, if◌then◌else◌, Result, Ok, Err, unwrap_or}
use Rattle.refusals.specs.declared.Refusal.{Refusal}
use Rattle.refusals.specs.declared.Refusal.TheVariants as refusal
use Rattle.shares.specs.Shares.{share_of, is_masked, is_channel}
use Rattle.generators.specs.Generators.{at}
use Rattle.instrument.specs.Instrument.{is_rhythm}
use Rattle.device.specs.declared.Device.{Device}
use Rattle.queries.specs.declared.GeneratorState.{GeneratorState}

-- R7.3, R7.4, R8.12: a generator's state, channel and key
unfoldable pub generator_query : Device → ℕ → Result GeneratorState Refusal
generator_query d g =
    if leb d.instrument.polyphony g
    then Err refusal.NoGenerator
    else
    Ok (record {
      state = (at d.instrument.generators g).state;
      channel = (at d.instrument.generators g).channel;
      key = (at d.instrument.generators g).key;
    })

-- R7.5, R8.14: whether a channel is masked
unfoldable pub mask_query : Device → ℕ → Result Bool Refusal
mask_query d c =
    if is_channel c
    then Ok (is_masked (share_of d.instrument.table d.instrument.polyphony c))
    else Err refusal.NoChannel

-- R7.6: its share, 0 if it is masked
unfoldable pub share_query : Device → ℕ → Result ℕ Refusal
share_query d c =
    if is_channel c
    then Ok (unwrap_or (share_of d.instrument.table d.instrument.polyphony c) 0)
    else Err refusal.NoChannel

-- R7.7: whether it is a rhythm channel
unfoldable pub rhythm_query : Device → ℕ → Bool
rhythm_query d c = is_rhythm d.instrument c

-- `vectors::sounds::put_channel_levels`: what `channel_gains` answers are numbers, whose bits can be read (`Finite` of
-- the crate gains).
-- Assumes nothing.
use Rattle.gains.proofs.Finite.{numbers}
use Rattle.vectors.proofs.sounds.put_channel_levels.Goals as goal

pub put_gains-requires : goal.put_gains-requires
put_gains-requires c =
    let x = c.args.c in
    numbers x.expression x.volume x.pan c.channel_gains.result c.channel_gains.ensures.0

-- `vectors::sounds::put_levels_asked`: what `gains_of` answers are numbers, whose bits can be read (`Finite` of the crate
-- gains).
-- Assumes nothing.
use Rattle.gains.proofs.Finite.{numbers}
use Rattle.vectors.proofs.sounds.put_levels_asked.Goals as goal

pub put_gains-requires : goal.put_gains-requires
put_gains-requires c =
    let a = c.args in
    numbers a.expression a.volume a.pan c.gains_of.result c.gains_of.ensures.0

-- `event_line::Line::new` meets its contract: the record made is the definition's.
-- Assumes nothing.
use mathlib.Core.Path.{refl}
use Rattle.event_line.specs.Log.{blank}
use Rattle.event_line.proofs.Line.new.Goals as goal

pub returns : goal.returns
unfolding blank
returns c = refl

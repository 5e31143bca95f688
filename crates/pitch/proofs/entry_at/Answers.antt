-- `pitch::entry_at` meets its contract: the table is that of `Roots`.
-- Assumes nothing.
use mathlib.Core.Path.{sym}
use borrow.Author.Rules.{rules}
use Rattle.pitch.proofs.Roots.{entry_at}
use Rattle.pitch.proofs.entry_at.Goals as goal

pub returns : goal.returns
returns c = sym (entry_at c.args.i (search rules))

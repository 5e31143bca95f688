-- `shares::share_of` meets its contract. Invariant: the share that the channel finds in the entries that are left, with
-- the value before them, is the one that it finds in all of them.
-- Assumes nothing.
use mathlib.Core.Path.{◌≡◌}
use lib.ListN.{drop}
use Rattle.shares.specs.Shares.{lookup, shares_from, share_of}
use Rattle.shares.proofs.share_of.Given as goal

abbrev pub invariant-loop-e : goal.invariant-loop-e
invariant-loop-e l =
    lookup l.channel (shares_from l.polyphony l.before (drop l.e-index l.e-items))
    ≡ share_of l.fn.table l.fn.polyphony l.fn.channel

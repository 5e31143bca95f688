-- `event_line::number` meets its contract. Invariant: n is the number of the digits so far, and below 22978 whatever
-- the bytes are.
-- Assumes nothing.
use Rattle.std.proofs.Common.{◌≡◌, ◌≤◌, take}
use Rattle.event_line.specs.Parse.{number}
use Rattle.event_line.proofs.number.Given as goal

abbrev pub invariant-loop-d : goal.invariant-loop-d
invariant-loop-d l =
    (l.n ≡ number (take l.d-index l.digits))
    × (l.d-index ≤ 0 → l.n ≤ 0) × (l.d-index ≤ 1 → l.n ≤ 207) × (l.d-index ≤ 2 → l.n ≤ 2277)

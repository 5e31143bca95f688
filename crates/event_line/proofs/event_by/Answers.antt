-- `event_line::event_by` meets its contract: the code's tests are the definition's.
-- Assumes nothing.
use Rattle.std.proofs.Common.{rules, tests}
use Rattle.event_line.specs.Parse.{event_by}
use Rattle.event_line.proofs.event_by.Goals as goal

pub returns-in-98 : goal.returns-in-98
unfolding event_by
returns-in-98 c = search (tests, rules)

pub returns-in-101 : goal.returns-in-101
unfolding event_by
returns-in-101 c = search (tests, rules)

pub returns-in_default : goal.returns-in_default
unfolding event_by
returns-in_default c = search (tests, rules)

pub returns-in_default-2 : goal.returns-in_default-2
unfolding event_by
returns-in_default-2 c = search (tests, rules)

pub returns-in_default-3 : goal.returns-in_default-3
unfolding event_by
returns-in_default-3 c = search (tests, rules)

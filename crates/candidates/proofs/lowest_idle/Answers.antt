-- `candidates::lowest_idle` meets its contract, by the laws of a search (`Scans`).
-- Assumes nothing.
use mathlib.Core.Path.{ap}
use borrow.Author.Tests.{eq-eqb, ne_eqb}
use Rattle.loops.specs.Cases.{given}
use Rattle.candidates.specs.Candidates.{lowest_idle}
use Rattle.candidates.proofs.Scans.{number_yes, number_no, number_end}
use Rattle.candidates.proofs.lowest_idle.Invariants.{idle_in}
use Rattle.candidates.proofs.lowest_idle.Goals as goal

pub returns-then-generators-g-eq-IDLE : goal.returns-then-generators-g-eq-IDLE
unfolding lowest_idle
returns-then-generators-g-eq-IDLE c =
    let st = c.args.generators.state in
    rw (← c.min-n.ensures) (ap given (number_yes (idle_in st) c.min-n.result c.loop-g.g _
    c.loop-g-test.true c.loop-g.invariant (eq-eqb _ _ c.if-generators-g-eq-IDLE.true)))

pub loop-g-preserved : goal.loop-g-preserved
loop-g-preserved c =
    number_no (idle_in c.args.generators.state) c.min-n.result c.loop-g.g _
    c.loop-g-test.true c.loop-g.invariant (ne_eqb _ _ c.if-generators-g-eq-IDLE.false)

pub returns : goal.returns
unfolding lowest_idle
returns c =
    let st = c.args.generators.state in
    rw (← c.min-n.ensures)
    (ap given (number_end (idle_in st) c.min-n.result c.loop-g.g _ c.loop-g-test.false c.loop-g.invariant))

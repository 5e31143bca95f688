-- `candidates::first_marked` meets its contract, by the laws of a search: what is gone over is the order of age.
-- Assumes nothing.
use mathlib.Core.Path.{◌≡◌, ap, ◌∙◌}
use mathlib.Core.Bool.{not}
use mathlib.Core.List.{List}
use Prim.Native.Nat.{ℕ, min}
use lib.ListN.{length, take}
use borrow.Author.Tests.{eq-eqb, ne_eqb}
use Rattle.loops.specs.Cases.{given}
use Rattle.loops.specs.Passes.{first_of}
use Rattle.loops.proofs.Padded.{take-at_most}
use Rattle.loops.proofs.Search.{first_yes, first_no, first_end}
use Rattle.ages.specs.declared.Ages.{Ages}
use Rattle.ages.specs.Ages.{oldest_first}
use Rattle.ages.proofs.Sizes.{generator_64}
use Rattle.candidates.proofs.first_marked.Invariants.{has-mark}
use Rattle.candidates.proofs.first_marked.Goals as goal

-- the part that is gone over is the order of age, and so its first is that one's first
by_age : (order : Ages) (marks : List ℕ) (n : ℕ) → n ≡ min order.count 64 → length order.generator ≡ 64
    → given (first_of (has-mark marks) (take n order.generator)) ≡ given (first_of (has-mark marks) (oldest_first order))
by_age order marks n e l =
    ap (λ (l : List ℕ). given (first_of (has-mark marks) l))
    (ap (λ (n : ℕ). take n order.generator) e ∙ take-at_most 64 order.count order.generator l)

pub returns-then-marks-g-ne0 : goal.returns-then-marks-g-ne0
returns-then-marks-g-ne0 c =
    ap given
    (first_yes (has-mark c.args.marks) 0 _ c.loop-g.g-index _ c.loop-g-test.true c.loop-g.invariant
    (ap not (ne_eqb _ _ c.if-marks-g-ne0.true)))
    ∙ by_age c.args.order c.args.marks c.from-n.result (c.from-n.ensures ∙ c.min.ensures)
    (generator_64 c.args.order c.well_formed.0)

pub loop-g-preserved : goal.loop-g-preserved
loop-g-preserved c =
    first_no (has-mark c.args.marks) 0 _ c.loop-g.g-index _ c.loop-g-test.true c.loop-g.invariant
    (ap not (eq-eqb _ _ c.if-marks-g-ne0.false))

pub returns : goal.returns
returns c =
    ap given (first_end (has-mark c.args.marks) _ c.loop-g.g-index _ c.loop-g-test.false c.loop-g.invariant) ∙ by_age c.args.order c.args.marks c.from-n.result (c.from-n.ensures ∙ c.min.ensures)
    (generator_64 c.args.order c.well_formed.0)

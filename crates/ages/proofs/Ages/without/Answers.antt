-- `ages::Ages::without` meets its contract. Invariant: with a 0 put at count the array holds the unmarked ones among the
-- numbers gone over, and 0 behind them; count is their number.
-- Assumes nothing.
use Prim.Native.Nat.{ℕ, ◌<◌}
use mathlib.Core.Path.{◌≡◌, refl, sym, ap, ◌∙◌}
use native.Mathlib.Omega.{arith}
use lib.ListN.{length, set, get_or, take, length-set}
use lib.Seq.{set_out, length-take-le}
use Rattle.std.proofs.lemmas.List.{get_or-take}
use Rattle.loops.specs.Cases.{bit}
use Rattle.loops.specs.Passes.{filter_by, padded}
use Rattle.loops.proofs.Totals.{bit_le}
use Rattle.loops.proofs.Compact.{kept, kept-count}
use Rattle.ages.specs.Ages.{unmarked, without}
use Rattle.ages.proofs.Orders.{kept_end, loose_next}
use Rattle.ages.proofs.Sizes.{generator_64}
use Rattle.ages.proofs.Ages.without.Goals as goal

pub loop-g-init : goal.loop-g-init
unfolding filter_by padded
loop-g-init c =
    (generator_64 c.args.self c.well_formed.0, omega arith, refl, refl, refl)

pub loop-g-preserved : goal.loop-g-preserved
loop-g-preserved c =
    let l = c.loop-g in
    let a = c.args in
    let order = a.self.generator in
    let i = l.g-index in
    let p = unmarked a.marks in
    let long : length (take c.from-n.result order) ≡ c.from-n.result = length-take-le c.from-n.result order (omega arith) in
    let h : i < length order = omega arith in
    let k : i < 64 = omega arith in
    let at = get_or-take c.from-n.result order i 0 (omega arith) in
    let x : c.from-count.result ≡ bit (p (get_or order i 0)) =
    c.from-count.ensures ∙ ap (λ (g : ℕ). bit (p g)) (c.from-in-loop-g.ensures ∙ at) in
    let few = bit_le (p (get_or order i 0)) in
    let q = kept-count p 0 64 order i l.count (padded 64 0 (kept p 0 64 order i))
    (p (get_or order i 0)) h k refl l.invariant.2 refl in
    let r = loose_next p order i l.count l.generator h k l.invariant.2 l.invariant.4 in
    let s = length-set l.generator l.count (get_or order i 0) in
    rw (at, c.from.ensures, x) (l.invariant.0, omega arith, q, s ∙ l.invariant.3, r)

pub returns-then-count-lt64 : goal.returns-then-count-lt64
unfolding without
returns-then-count-lt64 c =
    let l = c.loop-g in
    let a = c.args in
    let long : length (take c.from-n.result a.self.generator) ≡ c.from-n.result =
    length-take-le c.from-n.result a.self.generator (omega arith) in
    rw c.from-then-count-lt64.ensures (kept_end (unmarked a.marks) a.self l.g-index l.count
    (set l.generator l.count 0) l.invariant.0 (omega arith) l.invariant.2 l.invariant.4)

pub returns-else-count-lt64 : goal.returns-else-count-lt64
unfolding without
returns-else-count-lt64 c =
    let l = c.loop-g in
    let a = c.args in
    let long : length (take c.from-n.result a.self.generator) ≡ c.from-n.result =
    length-take-le c.from-n.result a.self.generator (omega arith) in
    let o = sym (set_out l.generator l.count 0 (omega (arith, c.if-count-lt64.false))) ∙ l.invariant.4 in
    kept_end (unmarked a.marks) a.self l.g-index l.count l.generator l.invariant.0 (omega arith) l.invariant.2 o

-- `mip::judge` meets its contract: number 5, then number 6, then the pairs.
-- Assumes nothing.
use mathlib.Core.Path.{◌≡◌, sym, ap, ◌∙◌}
use mathlib.Core.List.{List}
use Prim.Native.Nat.{ℕ, ◌+◌, ◌-◌}
use native.Mathlib.Omega.{arith}
use lib.ListN.{take, drop}
use Rattle.std.proofs.lemmas.List.{drop-take}
use Rattle.mip.specs.Mip.{pairs, judged_pairs}
use borrow.Author.Tests.{le-leb, lt-leb, eq-eqb, ne_eqb}
use Rattle.splitter.proofs.Sizes.{bytes_37}
use Rattle.mip.proofs.Length.{too_long, none_or_odd, all_pairs}
use Rattle.mip.proofs.judge.Goals as goal
use Rattle.mip.proofs.judge.Goals.{then-n-le4-via-then-n-le4, then-n-le4-via-else-n-le4+then-n-eq1}

pub returns-then-n-gt36 : goal.returns-then-n-gt36
returns-then-n-gt36 c =
    too_long c.args.parser.count c.args.parser.bytes (bytes_37 c.args.parser c.well_formed.0) c.if-n-gt36.true

pub returns-then-n-le4 : goal.returns-then-n-le4
returns-then-n-le4 c =
    let fault = none_or_odd c.args.parser.count c.args.parser.bytes (bytes_37 c.args.parser c.well_formed.0)
    c.if-n-gt36.false in
    elim c.then-n-le4.branch [
      | then-n-le4-via-then-n-le4 w ↦ fault (rw (le-leb _ _ w.if-n-le4.true))
      | then-n-le4-via-else-n-le4+then-n-eq1 w ↦ fault (rw (lt-leb _ _ w.if-n-le4.false, eq-eqb _ _ w.if-n-eq1.true))
    ]

pub returns : goal.returns
returns c =
    let p = c.args.parser in
    let n : 4 + (c.from.result - 4) ≡ p.count = omega arith in
    let l : take (c.from.result - 4) (drop 4 p.bytes) ≡ drop 4 (take p.count p.bytes) =
    sym (drop-take 4 (c.from.result - 4) p.bytes) ∙ ap (λ (k : ℕ). drop 4 (take k p.bytes)) n in
    c.judge_pairs.ensures ∙ ap (λ (r : List ℕ). judged_pairs (pairs r)) l
    ∙ all_pairs p.count p.bytes (bytes_37 p c.well_formed.0) c.if-n-gt36.false
    (rw (lt-leb _ _ c.if-n-le4.false, ne_eqb _ _ c.if-n-eq1.false))

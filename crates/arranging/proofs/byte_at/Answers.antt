-- `arranging::byte_at` meets its contract: the head, the end, and between them a channel or a value by the place's
-- parity.
-- Assumes nothing.
use Prim.Native.Nat.{◌-◌, ◌/◌, ◌%◌}
use mathlib.Core.Path.{◌≡◌, ◌∙◌}
use native.Mathlib.Omega.{arith}
use Rattle.arranging.proofs.Bytes.{byte_head, byte_last, byte_channel, byte_value, odd}
use Rattle.arranging.proofs.byte_at.Goals as goal

pub returns-then-i-lt5 : goal.returns-then-i-lt5
returns-then-i-lt5 c =
    let a = c.args in
    let g = c.well_formed in
    byte_head a.order a.most g.0.1.0.1 g.1.0.1.0.1 a.i c.if-i-lt5.true

pub returns-then-i-eq37 : goal.returns-then-i-eq37
returns-then-i-eq37 c =
    let a = c.args in
    let g = c.well_formed in
    byte_last a.order a.most g.0.1.0.1 g.1.0.1.0.1 a.i c.if-i-eq37.true

pub returns-then-i-eq0 : goal.returns-then-i-eq0
returns-then-i-eq0 c =
    let s = c in
    let a = s.args in
    let g = s.well_formed in
    let t : (a.i - 5) % 2 ≡ 0 = c.if-i-eq0.true in
    c.saturating_sub.ensures ∙ byte_channel a.order a.most g.0.1.0.1
    g.1.0.1.0.1 a.i ((a.i - 5) / 2) (omega arith) (omega arith)

pub returns : goal.returns
returns c =
    let s = c in
    let a = s.args in
    let g = s.well_formed in
    let t : (a.i - 5) % 2 ≡ 0 → ⊥ = c.if-i-eq0.false in
    let u : (a.i - 5) % 2 ≡ 1 = odd (a.i - 5) t in
    byte_value a.order a.most g.0.1.0.1 g.1.0.1.0.1 a.i ((a.i - 5) / 2) (omega arith) (omega arith)

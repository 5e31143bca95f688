-- `arranging::compose` meets its contract. Invariant: the first i bytes are those of the message.
-- Assumes nothing.
use Prim.Native.Nat.{ℕ}
use mathlib.Core.Path.{refl, ◌∙◌}
use native.Mathlib.Omega.{arith}
use lib.ListN.{get_or}
use Rattle.loops.specs.Passes.{up_to}
use Rattle.loops.proofs.Fill.{fill_next, fill_end, up_to_list}
use Rattle.arranging.specs.Arranging.{listing, mip_message}
use Rattle.arranging.proofs.Bytes.{message-length}
use Rattle.arranging.proofs.compose.Goals as goal

pub loop-i-init : goal.loop-i-init
unfolding up_to
loop-i-init c = (refl, refl)

pub loop-i-preserved : goal.loop-i-preserved
loop-i-preserved c =
    let l = c.loop-i in
    let a = c.args in (
      l.invariant.0,
      fill_next (λ (j : ℕ). get_or (mip_message (listing a.order a.most)) j 0) 0 _ l.out l.i _
          (omega arith) l.invariant.1 c.byte_at.ensures,
    )

pub returns : goal.returns
returns c =
    let l = c.loop-i in
    let a = c.args in
    let g = c.well_formed in
    fill_end (λ (j : ℕ). get_or (mip_message (listing a.order a.most)) j 0) _ l.out l.i 38
    (omega arith) (omega arith) l.invariant.1
    ∙ up_to_list (λ (j : ℕ). get_or (mip_message (listing a.order a.most)) j 0) 0
    (mip_message (listing a.order a.most)) 38
    (message-length a.order a.most g.0.1.0.1 g.1.0.1.0.1) (λ j h. refl)

-- `pitch_lines::put_answer`: a line that is a call is answered as its numbers are, cut where they are larger than the
-- call takes (`Refused`).
-- Assumes nothing.
use Rattle.std.specs.Prelude.{Result}
use Prim.Native.Nat.{ℕ}
use mathlib.Core.Path.{◌≡◌, sym, ◌∙◌}
use borrow.Author.Tests.{eq-eqb, ne_eqb, not-true, not-false}
use lib.Dec.{lit<}
use Rattle.refusals.specs.declared.Refusal.{Refusal}
use Rattle.loops.specs.Cases.{at_most}
use Rattle.text.specs.Text.{decimal_within}
use Rattle.text.proofs.Joined.{joined}
use Rattle.pitch.specs.declared.Pitch.{Pitch}
use Rattle.pitch.specs.Pitch.{pitch_of}
use Rattle.pitch_lines.specs.PitchLines.{pitch_fields, answer_line, line_answer}
use Rattle.pitch_lines.proofs.Refused.{key_cut, sensitivity_cut, bend_cut}
use Rattle.pitch_lines.proofs.put_answer.Goals as goal
use Rattle.pitch_lines.proofs.put_answer.Goals.{then-not-c-via-then-not-c, then-not-c-via-else-not-c+then-c-ne2}

called : (k s b : ℕ) {x y z : ℕ} {a r : Result Pitch Refusal} → x ≡ at_most 255 k
    → y ≡ at_most 255 s → z ≡ at_most 65535 b → a ≡ pitch_of x y z → a ≡ r → pitch_of k s b ≡ r
called k s b e f g h i =
    sym (key_cut 255 k s b (lit< tt))
    ∙ sym (sensitivity_cut 255 (at_most 255 k) s b (lit< tt))
    ∙ sym (bend_cut 65535 (at_most 255 k) (at_most 255 s) b (lit< tt))
    ∙ rw (← e, ← f, ← g, ← h) i

pub returns-in-Ok : goal.returns-in-Ok
unfolding line_answer answer_line decimal_within
returns-in-Ok c =
    let l = c.args.c in
    let e = called l.first l.previous l.last c.min-key.ensures c.min-sensitivity.ensures c.min-bend.ensures
    c.pitch_of.ensures c.in-Ok.is in
    rw (not-false _ c.if-not-c.false, eq-eqb _ _ c.if-c-ne2.false, e) (joined c.put-k.ensures c.put_pitch.ensures)

pub returns-in-Err : goal.returns-in-Err
unfolding line_answer answer_line pitch_fields decimal_within
returns-in-Err c =
    let l = c.args.c in
    let e = called l.first l.previous l.last c.min-key.ensures c.min-sensitivity.ensures c.min-bend.ensures
    c.pitch_of.ensures c.in-Err.is in
    let n = rw (c.from.ensures, c.number.ensures) at c.put_number-k.ensures in
    rw (not-false _ c.if-not-c.false, eq-eqb _ _ c.if-c-ne2.false, e) (joined n c.put-in-Err.ensures)

pub returns-then-not-c : goal.returns-then-not-c
unfolding line_answer
returns-then-not-c c =
    elim c.then-not-c.branch [
      | then-not-c-via-then-not-c w ↦ rw (not-true _ w.if-not-c.true) c.put.ensures
      | then-not-c-via-else-not-c+then-c-ne2 w ↦
          rw (not-false _ w.if-not-c.false, ne_eqb _ _ w.if-c-ne2.true) c.put.ensures
    ]

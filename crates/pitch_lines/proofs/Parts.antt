-- The answers to the bytes of a read, put into a page one behind the other.
-- Assumes nothing.
use Prim.Native.Nat.{ℕ, ◌+◌, ◌*◌, ◌≤◌, ◌<◌}
use mathlib.Core.Path.{◌≡◌, ◌∙◌}
use mathlib.Core.List.{List}
use native.Mathlib.Omega.{arith}
use lib.ListN.{length, take, get_or}
use lib.Seq.{take_all, take_at}
use Rattle.text.specs.Text.{Put}
use Rattle.text.proofs.Joined.{joined, whole}
use Rattle.fields.specs.declared.Line.{Line}
use Rattle.fields.specs.Line.{after, after_all}
use Rattle.fields.proofs.Parts.{next-after, next-answered}
use Rattle.pitch_lines.specs.PitchLines.{Answers, line_answer, answer, answers_to}
use Rattle.pitch_lines.proofs.Room.{bytes_length}

-- a byte more, and all of them
module _ (c : Line) (bs : List ℕ) (i : ℕ) where
  pub one_more : (k r : Line) {p q s : List ℕ} {used next : ℕ} → i < length bs
      → k ≡ after_all c (take i bs) → Put p 0 (answers_to c (take i bs)) used q
      → Answers q used (answer k (get_or bs i 0)) (after k (get_or bs i 0)) r next s
      → (r ≡ after_all c (take (i + 1) bs)) × Put p 0 (answers_to c (take (i + 1) bs)) next s
  one_more k r h e a b =
      (b.kept ∙ rw (e, next-after c bs i h), rw (next-answered line_answer c bs i h) (joined a (rw e at b.put)))

  pub no_more : (k : Line) {p q : List ℕ} {used : ℕ} → length bs ≤ i
      → k ≡ after_all c (take i bs) → Put p 0 (answers_to c (take i bs)) used q
      → Answers p 0 (answers_to c bs) (after_all c bs) k used q
  no_more k h e a = record { kept = rw (take_all i bs h) at e; put = rw (take_all i bs h) at a }

pub stands_whole : (c : Line) (bs : List ℕ) (used : ℕ) {p q : List ℕ}
    → Put p 0 (answers_to c bs) used q → 16 * length bs ≤ length p → take used q ≡ answers_to c bs
stands_whole c bs used {p} {q} a h =
    let b = bytes_length c bs in
    let w = whole {p = p} {q = q} {t = answers_to c bs} {at = 0} {k = used} (omega arith) a in
    let n : length (answers_to c bs) ≡ used = omega (arith, w.0) in
    rw w.1 (take_at (answers_to c bs) _ used n)

-- `song_lines::put_answer`: three texts one behind the other, or two; they are short enough for 16 bytes (`Room`).
-- Assumes nothing.
use Rattle.std.specs.Prelude.{Ok, Err}
use Rattle.std.proofs.Common.{append_assoc}
use Prim.Native.Nat.{◌<◌}
use mathlib.Core.Path.{◌≡◌, sym}
use mathlib.Core.List.{[], ◌∷◌, ◌++◌}
use native.Mathlib.Omega.{arith}
use lib.Dec.{lit<}
use Rattle.refusals.specs.declared.Refusal.{Refusal}
use Rattle.refusals.specs.Refusals.{number}
use Rattle.text.specs.Text.{decimal_within, decimal}
use Rattle.text.proofs.Joined.{joined}
use Rattle.song_lines.specs.SongLines.{answer_line}
use Rattle.song_lines.proofs.Room.{stands_whole}
use Rattle.song_lines.proofs.put_answer.Goals as goal

pub returns-in-Ok : goal.returns-in-Ok
unfolding answer_line decimal_within
returns-in-Ok c =
    let w = joined (joined c.put-k.ensures (rw c.from.ensures at c.put_number-m.ensures)) c.put.ensures in
    let k : c.in-Ok.t < 4294967296 = omega arith in
    rw c.in-Ok.is (record { put = w; page_after = λ h. stands_whole (Ok c.in-Ok.t) (lit< tt) k _ w h })

-- the line of a refusal
refused-line : (r : Refusal) → answer_line (Err r) ≡ decimal (number r) ++ (44 ∷ 48 ∷ 10 ∷ [])
unfolding answer_line decimal_within
refused-line r = append_assoc (decimal (number r)) (44 ∷ 48 ∷ []) (10 ∷ [])

pub returns-in-Err : goal.returns-in-Err
returns-in-Err c =
    let r = c.in-Err.r in
    let n = rw (c.from-in-Err.ensures, c.number.ensures) at c.put_number-k.ensures in
    let w = rw (sym (refused-line r)) at (joined n c.put-in-Err.ensures) in
    let k : number r < 256 = rw c.number.ensures at c.number.type_inv in
    rw c.in-Err.is (record { put = w; page_after = λ h. stands_whole (Err r) k (lit< tt) _ w h })

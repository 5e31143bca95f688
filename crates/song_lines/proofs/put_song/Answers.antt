-- `song_lines::put_song` meets its contract, by the answer of the song: `put-song` and `put_refused`.
-- Assumes nothing.
use mathlib.Core.Path.{sym, ◌∙◌}
use native.Mathlib.Omega.{arith}
use Rattle.song_lines.proofs.Refused.{song-short}
use Rattle.song_lines.proofs.Page.{small-page, put-song, put_refused}
use Rattle.song_lines.proofs.put_song.Goals as goal

pub returns-then-page-lt2 : goal.returns-then-page-lt2
returns-then-page-lt2 c = small-page _ _ _ _ c.if-page-lt2.true

pub overflow_add-result : goal.overflow_add-result
overflow_add-result c =
    let w = c.write_behind-answer.ensures in
    let h = song-short _ _ _ _ (sym w.0 ∙ c.in-Ok.is) in
    omega arith

pub returns-in-Ok : goal.returns-in-Ok
returns-in-Ok c =
    let w = c.write_behind-answer.ensures in
    rw c.in-Ok.is (put-song _ _ _ _ _ c.if-page-lt2.false (sym w.0 ∙ c.in-Ok.is) w.1)

pub returns-in-Err : goal.returns-in-Err
returns-in-Err c =
    let w = c.write_behind-answer.ensures in
    rw c.in-Err.is (put_refused _ _ _ _ _ c.if-page-lt2.false (sym w.0 ∙ c.in-Err.is))

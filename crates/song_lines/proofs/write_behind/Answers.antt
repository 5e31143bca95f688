-- `song_lines::write_behind`: what is lent is all of the page behind its first two bytes.
-- Assumes nothing.
use Rattle.song_lines.proofs.Page.{written_behind}
use Rattle.song_lines.proofs.write_behind.Goals as goal

pub returns : goal.returns
returns c =
    let w = c.write_song.ensures in
    written_behind c.args.page.now _ _ _ _ w.0 w.1

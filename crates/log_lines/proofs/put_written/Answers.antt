-- `log_lines::put_written`: six texts one behind the other, which are at most 139 bytes (`Room`).
-- Assumes nothing.
use Rattle.std.proofs.Common.{◌<◌, arith}
use Rattle.text.proofs.Joined.{joined}
use Rattle.log_lines.specs.LogLines.{written_line}
use Rattle.log_lines.proofs.Room.{stands_behind, line-length}
use Rattle.log_lines.proofs.Sizes.{bytes_38}
use Rattle.log_lines.proofs.put_written.Goals as goal

pub returns : goal.returns
unfolding written_line
returns c =
    let number : c.args.w.number < 256 = omega arith in
    let line : c.args.w.line < 18446744073709551616 = omega arith in
    let w = joined (joined (joined c.put_number-a.ensures (joined c.put-b.ensures c.put_number-c.ensures))
    (joined c.put-d.ensures c.put_bytes-e.ensures)) c.put.ensures in
    record {
      put = w;
      page_after = λ h. stands_behind 139 _ (line-length c.args.w number line (bytes_38 c.args.w c.well_formed.1.1.0)) _ _ w h;
    }

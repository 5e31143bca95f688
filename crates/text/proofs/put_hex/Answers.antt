-- `text::put_hex`: the two digits, one behind the other.
-- Assumes nothing.
use Rattle.text.proofs.Joined.{joined}
use Rattle.text.proofs.put_hex.Goals as goal

pub returns : goal.returns
returns c =
    let a = c.put_byte.ensures in
    let h = c.hex_digit-2.ensures in
    let b = c.put_byte-k.ensures in
    let g = c.hex_digit.ensures in
    joined (rw g at b) (rw h at a)

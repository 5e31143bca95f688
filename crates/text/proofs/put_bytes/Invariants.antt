-- `text::put_bytes`: before the byte at i the bytes before it are put, as hexadecimal digits.
-- Assumes nothing.
use mathlib.Core.Path.{◌≡◌}
use lib.ListN.{length, take}
use Rattle.text.specs.Text.{Put, hexadecimals}
use Rattle.text.proofs.put_bytes.Given as goal

abbrev pub invariant-loop-i : goal.invariant-loop-i
invariant-loop-i l =
    (length l.page ≡ length l.initial.page) × Put l.initial.page l.at (hexadecimals (take l.i l.bytes)) l.k l.page

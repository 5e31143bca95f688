-- R4.1: a real_time byte completes nothing and leaves the parser as it is, running status, a pending data byte and an
-- open SysEx included. Assumes nothing.
use mathlib.Core.Path.{◌≡◌}
use mathlib.Core.Bool.{true, false}
use Prim.Native.Nat.{ℕ, ◌≤◌}
use native.Mathlib.Omega.{arith}
use borrow.Author.Tests.{leb-true, le-ltb}
use lib.Dec.{leb, ltb}
use Rattle.splitter.specs.Split.{split, status_byte}
use Rattle.splitter.specs.declared.Parser.{Parser}
use Rattle.splitter.specs.declared.Completed.TheVariants.{Nothing}

pub real_time : (p : Parser) (b : ℕ) → leb 0xF8 b ≡ true → split p b ≡ record { parser = p; completed = Nothing }
unfolding split status_byte
real_time p b h =
    let k : 0xF8 ≤ b = leb-true 0xF8 b h in
    let s : ltb b 0x80 ≡ false = le-ltb b 0x80 (omega arith) in
    rw (s, h)

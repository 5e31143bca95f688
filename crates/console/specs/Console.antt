-- What a read or a write may answer. Of the bytes that came or went no contract of the C library says anything.
use Rattle.std.specs.Prelude.{ℕ, ◌<◌, List, Result, Ok, Err, Option, Some, None}
use Rattle.io.specs.Counts.{IsPrefixLen}
use Rattle.console.specs.declared.Unreadable.{Unreadable}
use Rattle.console.specs.declared.Cut.{Cut}

-- a read into this buffer: bytes that came are at its start, one at least and no more than it has; None is the input's
-- end
abbrev pub Reads : List ℕ → Result (Option ℕ) Unreadable → Type 0
Reads buffer (Ok (Some n)) = (0 < n) × IsPrefixLen n buffer
Reads buffer (Ok None) = Unit {0}
Reads buffer (Err e) = Unit {0}

-- a write of so many bytes: one that was cut took fewer
abbrev pub Writes : ℕ → Result Unit Cut → Type 0
Writes size (Ok u) = Unit {0}
Writes size (Err c) = c.taken < size

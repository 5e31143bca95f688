-- R1.11: the record after what a byte completed, where the record's parser is already the one after the byte, or still
-- the one before it.
use Rattle.std.specs.Prelude.{ℕ}
use Rattle.splitter.specs.declared.Parser.{Parser}
use Rattle.splitter.specs.declared.Completed.{Completed}
use Rattle.splitter.specs.Split.{split}
use Rattle.playing.specs.Playing.{play_note_on}
use Rattle.device.specs.declared.Device.{Device}
use Rattle.device.specs.declared.Output.{Output}
use Rattle.device.specs.Device.{output_of, heard}

-- a note-on, which the parser has left behind
abbrev pub note_heard : Device → ℕ → ℕ → Output
note_heard d c k = output_of d.parser (play_note_on d.instrument c k)

-- anything that a byte completed where it found parser p
abbrev pub acted : Device → Parser → Completed → Output
acted d p k = output_of d.parser (heard d.instrument p k)

-- byte b, which completed k
abbrev pub heard_by : Device → ℕ → Completed → Output
heard_by d b k = output_of (split d.parser b).parser (heard d.instrument d.parser k)

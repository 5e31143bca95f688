-- What a byte touches of the record, by what it completed: most touch the parser alone, and a note-on the generators.
use Rattle.std.specs.Prelude.{Bool, true, false, Option, Some, None}
use Rattle.refusals.specs.declared.Refusal.TheVariants as refusal
use Rattle.splitter.specs.declared.Completed.{Completed}
use Rattle.splitter.specs.declared.Completed.TheVariants as completed
use Rattle.message.specs.declared.Message.{Message}
use Rattle.message.specs.declared.Message.TheVariants as message
use Rattle.message.specs.Message.{decode}
use Rattle.playing.specs.declared.Answer.{Answer}
use Rattle.playing.specs.declared.Answer.TheVariants as answer
use Rattle.touched.specs.declared.Key.{Key}

-- these complete nothing (R4.13), or are numbers 3 and 4 (R4.9, R4.10)
abbrev pub is_quiet : Completed → Bool
is_quiet completed.Nothing = true
is_quiet completed.Stray = true
is_quiet completed.Cut = true
is_quiet (completed.Message s a b) = false
is_quiet completed.SysEx = false

-- the answer to one of them; of any other it says nothing
abbrev pub quiet_answer : Completed → Answer
quiet_answer completed.Nothing = answer.Nothing
quiet_answer completed.Stray = answer.Number refusal.Stray
quiet_answer completed.Cut = answer.Number refusal.Cut
quiet_answer (completed.Message s a b) = answer.Nothing
quiet_answer completed.SysEx = answer.Nothing

-- the channel and key of a note-on with a velocity above 0
abbrev pub key_in : Message → Option Key
key_in (message.NoteOn c k) = Some (record { channel = c; key = k })
key_in (message.NoteOff c k) = None
key_in (message.Control c n v) = None
key_in (message.Program c n) = None
key_in (message.Bend c msb lsb) = None
key_in message.Other = None

abbrev pub key_of : Completed → Option Key
key_of completed.Nothing = None
key_of completed.Stray = None
key_of completed.Cut = None
key_of (completed.Message s a b) = key_in (decode s a b)
key_of completed.SysEx = None

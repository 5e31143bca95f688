-- The device by its bytes, from its start on.
use Rattle.std.specs.Prelude.{ℕ, Bool, ◌||◌, List, [], ◌∷◌, ltb, if◌then◌else◌}
use Rattle.refusals.specs.declared.Refusal.TheVariants as refusal
use Rattle.splitter.specs.declared.Parser.{Parser}
use Rattle.splitter.specs.declared.Completed.{Completed}
use Rattle.splitter.specs.declared.Completed.TheVariants.{Nothing, Stray, Cut, Message, SysEx}
use Rattle.splitter.specs.Split.{quiet, body, split}
use Rattle.message.specs.Message.{decode}
use Rattle.instrument.specs.declared.Instrument.{Instrument}
use Rattle.instrument.specs.Instrument.{fresh}
use Rattle.playing.specs.declared.Answer.{Answer}
use Rattle.playing.specs.declared.Answer.TheVariants as answer
use Rattle.playing.specs.declared.Reply.{Reply}
use Rattle.playing.specs.Playing.{replied, played}
use Rattle.exclusive.specs.Exclusive.{exclusive}
use Rattle.device.specs.declared.Device.{Device}
use Rattle.device.specs.declared.Output.{Output}

-- R1.10: the record of a start with P and the own ID
abbrev pub fresh_device : ℕ → ℕ → Device
fresh_device p id = record { parser = quiet; instrument = fresh p id }

abbrev pub fresh_output : Answer → ℕ → ℕ → Output
fresh_output a p id = record { answer = a; device = fresh_device p id }

-- R8.1, R8.2: a wrong P, then a wrong own ID; both leave the fresh record of P 1 and own ID 0. R1.1, R1.2: what is
-- right
abbrev pub is_wrong_p : ℕ → Bool
is_wrong_p p = ltb p 1 || ltb 64 p

unfoldable pub started : ℕ → ℕ → Output
started p id =
    if is_wrong_p p then fresh_output (answer.Number refusal.WrongPolyphony) 1 0 else
    if ltb 126 id then fresh_output (answer.Number refusal.WrongId) 1 0 else
    fresh_output answer.Done p id

-- what a byte completed; p is the parser that it found. R4.12: a channel message is played; R4.13: nothing completed
-- is answered none; R4.9, R4.10, R8.3, R8.4: a cut SysEx and a stray byte are refused
unfoldable pub heard : Instrument → Parser → Completed → Reply
heard i p Nothing = replied answer.Nothing i
heard i p Stray = replied (answer.Number refusal.Stray) i
heard i p Cut = replied (answer.Number refusal.Cut) i
heard i p (Message s a b) = played i (decode s a b)
heard i p SysEx = exclusive i (body p)

-- R1.11: a record is its parser and the rest
abbrev pub output_of : Parser → Reply → Output
output_of p r = record { answer = r.answer; device = record { parser = p; instrument = r.instrument } }

-- a byte
unfoldable pub byte_taken : Device → ℕ → Output
byte_taken d b =
    output_of (split d.parser b).parser (heard d.instrument d.parser (split d.parser b).completed)

-- what a list of bytes leaves of a device
unfoldable pub after_bytes : Device → List ℕ → Device
after_bytes d [] = d
after_bytes d (b ∷ l) = after_bytes (byte_taken d b).device l

-- What a complete channel message does to the sound module, and what it answers (R4.11, R4.12). What note-offs,
-- controllers and program changes do is in `other_messages`.
use Rattle.std.specs.Prelude.{ℕ, Result, Ok, Err}
use Rattle.std.proofs.Math.Option.{Option, some, none}
use Rattle.refusals.specs.declared.Refusal.{Refusal}
use Rattle.refusals.specs.Refusals as refusals
use Rattle.message.specs.declared.Message.{Message}
use Rattle.message.specs.declared.Message.TheVariants as message
use Rattle.channels.specs.Channel.{with_bend}
use Rattle.allocation.specs.declared.Taken.{Taken}
use Rattle.allocation.specs.declared.Allocated.{Allocated}
use Rattle.allocation.specs.Allocation.{note_on}
use Rattle.instrument.specs.declared.Instrument.{Instrument}
use Rattle.instrument.specs.Instrument.{channel_of, with_channel, with_generators, is_rhythm}
use Rattle.other_messages.specs.OtherMessages.{play_note_off, play_control, play_program}
use Rattle.playing.specs.declared.Answer.{Answer}
use Rattle.playing.specs.declared.Answer.TheVariants.{Nothing, Done, Note, NoNote, Number}
use Rattle.playing.specs.declared.Reply.{Reply}
use Rattle.playing.specs.declared.Sounded.{Sounded}

-- R4.11: the answer to a note-on, or number 10 or 11
abbrev pub reply_of : Result Taken Refusal → ℕ → ℕ → Answer
reply_of (Ok t) c k = Note c k t.generator t.was
reply_of (Err r) c k = NoNote r c k

abbrev pub note_reply : Instrument → ℕ → ℕ → Allocated → Reply
note_reply i c k a = record { answer = reply_of a.taken c k; instrument = with_generators i a.generators }

-- note-on, velocity above 0
unfoldable pub play_note_on : Instrument → ℕ → ℕ → Reply
play_note_on i c k = note_reply i c k (note_on i.generators i.table i.polyphony (is_rhythm i c) c k)

-- what a note-on can change
abbrev pub sounded_of : Reply → Sounded
sounded_of r = record { answer = r.answer; generators = r.instrument.generators }

abbrev pub replied : Answer → Instrument → Reply
replied a i = record { answer = a; instrument = i }

-- R4.12: every other message is answered done; R6.5: program and bend; R6.13: pressure changes nothing
unfoldable pub played : Instrument → Message → Reply
played i (message.NoteOn c k) = play_note_on i c k
played i (message.NoteOff c k) = replied Done (play_note_off i c k)
played i (message.Control c n v) = replied Done (play_control i c n v)
played i (message.Program c n) = replied Done (play_program i c n)
played i (message.Bend c msb lsb) = replied Done (with_channel i c (with_bend (channel_of i c) msb lsb))
played i message.Other = replied Done i

-- the number of an answer, where it has one
abbrev pub number_of : Answer → Option ℕ
number_of Nothing = none
number_of Done = none
number_of (Note c k g w) = none
number_of (NoNote r c k) = some (refusals.number r)
number_of (Number r) = some (refusals.number r)

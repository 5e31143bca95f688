-- A channel message by its status and data bytes. R1.12: the wire carries the channel minus 1.
use Rattle.std.specs.Prelude.{ℕ, ◌+◌, ◌/◌, ◌%◌, eqb, if◌then◌else◌}
use Rattle.message.specs.declared.Message.{Message}
use Rattle.message.specs.declared.Message.TheVariants.{NoteOn, NoteOff, Control, Program, Bend, Other}

abbrev pub channel_of : ℕ → ℕ
channel_of s = s % 16 + 1

-- 8 note-off, 9 note-on (R6.1: with velocity 0 a note-off), B controller, C program, E bend (R6.5: its first data
-- byte is the LSB); A and D are pressure, which changes nothing (R6.13)
unfoldable pub decode : ℕ → ℕ → ℕ → Message
decode s a b =
    if eqb (s / 16) 8 then NoteOff (channel_of s) a else
    if eqb (s / 16) 9 then (if eqb b 0 then NoteOff (channel_of s) a else NoteOn (channel_of s) a) else
    if eqb (s / 16) 11 then Control (channel_of s) a b else
    if eqb (s / 16) 12 then Program (channel_of s) a else
    if eqb (s / 16) 14 then Bend (channel_of s) b a else
    Other

-- Section 4 of docs/RULES.md: how a stream of bytes is split into messages. Pure MIDI 1.0: nothing here knows a
-- polyphony, an own ID or a table. R4.14: a parser holds the status byte in force (0: none), how many data bytes have
-- come since, and these bytes; of a SysEx the first 37, counted to 37, since no message that counts is longer than 36.
use Rattle.std.specs.Prelude.{ℕ, ◌+◌, Bool, ◌&&◌, ◌||◌, not, eqb, leb, ltb, if◌then◌else◌}
use Rattle.std.specs.Prelude.{List, get_or, set, take, replicate}
use Rattle.splitter.specs.declared.Parser.{Parser}
use Rattle.splitter.specs.declared.Completed.{Completed}
use Rattle.splitter.specs.declared.Completed.TheVariants.{Nothing, Stray, Cut, Message, SysEx}
use Rattle.splitter.specs.declared.Split.{Split}

-- a status byte in force, no data byte yet
unfoldable pub begun : ℕ → Parser
begun b = record { status = b; count = 0; bytes = replicate 37 0 }

-- R1.10: no status in force, the parser of a fresh record
abbrev pub quiet : Parser
quiet = begun 0

-- R4.14: one data byte more, the 38th and later ones not kept
unfoldable pub stored : Parser → ℕ → Parser
stored p b =
    if ltb p.count 37
    then record { status = p.status; count = p.count + 1; bytes = set p.bytes p.count b }
    else p

abbrev pub in_sys_ex : Parser → Bool
in_sys_ex p = eqb p.status 0xF0

-- the data bytes of the SysEx that is open
abbrev pub body : Parser → List ℕ
body p = take p.count p.bytes

-- R4.3, R4.7: how many data bytes a status takes, one or two
unfoldable pub one_data_byte : ℕ → Bool
one_data_byte s = leb 0xC0 s && ltb s 0xE0 || (eqb s 0xF1 || eqb s 0xF3)

-- whether the next data byte is the last that the status in force takes; R4.6: a SysEx takes any number of them
abbrev pub at_last : Parser → Bool
at_last p = not (in_sys_ex p) && (one_data_byte p.status || not (eqb p.count 0))

-- R4.2: the data byte that completes a message, after which the status stays in force; R4.7: or the last that F1 to
-- F3 swallow, after which none is
unfoldable pub completed : Parser → ℕ → Split
completed p b =
    let one = one_data_byte p.status in
    if leb 0xF0 p.status then record { parser = quiet; completed = Nothing } else
    record {
      parser = begun p.status;
      completed = Message p.status (if one then b else get_or p.bytes 0 0) (if one then 0 else b);
    }

-- a byte below 80; R4.10: stray where no status is in force; R4.13: not the last one completes nothing
unfoldable pub data_byte : Parser → ℕ → Split
data_byte p b =
    if ltb p.status 0x80 then record { parser = p; completed = Stray } else
    if at_last p then completed p b else
    record { parser = stored p b; completed = Nothing }

-- R4.2, R4.4, R4.5, R4.6, R4.7, R4.8: a status from 80 to F7 replaces what was in force: 80 to EF are the running
-- status, F0 opens a SysEx, F1 to F3 swallow, F4 to F7 leave none
unfoldable pub opened : ℕ → Parser
opened b = begun (if ltb b 0xF4 then b else 0)

-- what status b completes where s was in force: R4.6: F7 ends a SysEx; R4.9: a status below F7 cuts it
unfoldable pub ended : ℕ → ℕ → Completed
ended s b = if eqb s 0xF0 then if eqb b 0xF7 then SysEx else Cut else Nothing

-- a byte from 80 on; R4.1: F8 to FF leave all as it is
unfoldable pub status_byte : Parser → ℕ → Split
status_byte p b =
    if leb 0xF8 b then record { parser = p; completed = Nothing } else
    record { parser = opened b; completed = ended p.status b }

-- a byte
unfoldable pub split : Parser → ℕ → Split
split p b = if ltb b 0x80 then data_byte p b else status_byte p b

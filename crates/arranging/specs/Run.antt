-- R14.10: a log in parts: what is kept between two parts, and what a byte of the log does to it. That any parts come
-- to `message` of the whole log is proved in proofs/Parts.antt.
-- Assumes nothing.
use Rattle.std.specs.Prelude.{ℕ, ◌+◌, Bool, true, false, List, [], ◌∷◌, ◌++◌, eqb, replicate, if◌then◌else◌}
use Rattle.std.specs.Prelude as std
use Rattle.std.specs.Prelude.{Some, None}
use Rattle.std.proofs.Math.Option.{Option, some, none}
use Rattle.playing.specs.declared.Answer.{Answer}
use Rattle.playing.specs.declared.Answer.TheVariants as answer
use Rattle.device.specs.declared.Device.{Device}
use Rattle.events.specs.declared.Event.{Event}
use Rattle.events.specs.Events.{taken}
use Rattle.event_line.specs.declared.Line.{Line}
use Rattle.event_line.specs.Log.{event_of, blank, put, text_of}
use Rattle.order.specs.Order.{order_of}
use Rattle.joint.specs.Joint.{raised}
use Rattle.arranging.specs.declared.Song.{Song}
use Rattle.arranging.specs.declared.Run.{Run}
use Rattle.arranging.specs.declared.Written.{Written}
use Rattle.arranging.specs.Arranging.{fresh, spoils, told, whole, refused}

abbrev pub song : Device → List ℕ → List ℕ → ℕ → ℕ → Song
song d order most lines number = record { device = d; order = order; most = most; lines = lines; number = number }

-- one line more
abbrev pub counted : ℕ → ℕ
counted lines = told (lines + 1)

-- a number falls at a line: it is looked at, and no line behind it
unfoldable pub stopped : Song → ℕ → Song
stopped s n = song s.device s.order s.most (counted s.lines) n

-- an event that is answered *none* moves no generator (proofs/Quiet.antt), so nothing is counted
abbrev pub is_quiet : Answer → Bool
is_quiet answer.Nothing = true
is_quiet answer.Done = false
is_quiet (answer.Note c k g w) = false
is_quiet (answer.NoNote r c k) = false
is_quiet (answer.Number r) = false

unfoldable pub event_played : Song → Event → Song
event_played s e =
    let o = taken s.device e in
    if spoils s.device e then stopped s 17 else
    song o.device s.order
    (if is_quiet o.answer then s.most else raised s.order s.most o.device.instrument.generators)
    (counted s.lines) 0

abbrev pub meaning_played : Song → Option Event → Song
meaning_played s none = stopped s 15
meaning_played s (some e) = event_played s e

unfoldable pub line_played : Song → List ℕ → Song
line_played s l = if eqb s.number 0 then meaning_played s (event_of l) else s

abbrev pub run : Song → Line → Run
run s l = record { song = s; line = l }

-- one byte of the log; 0AH ends a line
unfoldable pub byte_heard : Run → ℕ → Run
byte_heard r b =
    if eqb b 0x0A
    then run (line_played r.song (text_of (put r.line b))) blank
    else run r.song (put r.line b)

-- a part of the log
unfoldable pub heard : Run → List ℕ → Run
heard r [] = r
heard r (b ∷ l) = heard (byte_heard r b) l

-- several parts one behind the other
abbrev pub joined : List (List ℕ) → List ℕ
joined [] = []
joined (p ∷ ps) = p ++ joined ps

-- a song in which no line was looked at, with the number that has fallen
abbrev pub song_begun : List ℕ → ℕ → Run
song_begun order number = run (song fresh order (replicate 16 0) 0 number) blank

-- R18.5: before the first part: the order is looked at, and its number has fallen or not
unfoldable pub begun_by : std.Option (List ℕ) → Run
begun_by (Some order) = song_begun order 0
begun_by None = song_begun (replicate 16 0) 16

abbrev pub begun : List ℕ → Run
begun order = begun_by (order_of order)

-- the end of the log: a line that is not ended, n bytes of which are kept, is of another form
unfoldable pub ended_by : Song → ℕ → Written
ended_by s n = if eqb n 0 then whole s.order s.most s.lines else refused 15 (counted s.lines)

-- R14.10, R18.5: the message of the parts so far
unfoldable pub finished : Run → Written
finished r =
    if eqb r.song.number 0
    then ended_by r.song r.line.count
    else refused r.song.number r.song.lines

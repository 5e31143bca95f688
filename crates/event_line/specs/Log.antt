-- R14.1: the lines of a song's log.
-- Assumes nothing.
use Rattle.std.specs.Prelude.{ℕ, ◌+◌, ◌/◌, ◌%◌, Bool, true, false, ◌&&◌, List, [], ◌∷◌, ◌++◌, eqb, ltb, take, set, replicate, if◌then◌else◌}
use Rattle.std.proofs.Math.Option.{Option, some, none}
use Rattle.loops.specs.Passes.{up_to, first_of}
use Rattle.events.specs.declared.Event.{Event}
use Rattle.events.specs.declared.Event.TheVariants.{Byte, Report}
use Rattle.event_line.specs.declared.Line.{Line}
use Rattle.std.specs.Prelude.{Some, None}
use Rattle.std.specs.Prelude as std

-- a number below 1000 in decimal, with no zero before it; digit 0 is byte 48
unfoldable pub decimal : ℕ → List ℕ
decimal n =
    if ltb n 10 then (48 + n) ∷ [] else
    if ltb n 100 then (48 + n / 10) ∷ (48 + n % 10) ∷ [] else
    (48 + n / 100) ∷ (48 + n / 10 % 10) ∷ (48 + n % 10) ∷ []

-- the line of an event: `b` is 98, `e` is 101, the comma 44, the end 0AH
unfoldable pub line_of : Event → List ℕ
line_of (Byte b) = 98 ∷ 44 ∷ (decimal b ++ (0x0A ∷ []))
line_of (Report g) = 101 ∷ 44 ∷ (decimal g ++ (0x0A ∷ []))

-- the events that have a line: bytes from 0 to 255, generators from 0 to 63
unfoldable pub loggable : List Event
loggable = up_to Byte 256 ++ up_to Report 64

abbrev pub same : List ℕ → List ℕ → Bool
same [] [] = true
same [] (y ∷ m) = false
same (x ∷ l) [] = false
same (x ∷ l) (y ∷ m) = eqb x y && same l m

-- R14.1: the event whose line this is; none for a line of another form
unfoldable pub event_of : List ℕ → Option Event
event_of l = first_of (λ e. same l (line_of e)) loggable

-- a text cut behind each 0AH, with what stands in the line so far; a last part without 0AH is a line, and of another
-- form
abbrev pub last_line : List ℕ → List (List ℕ)
last_line [] = []
last_line (x ∷ line) = (x ∷ line) ∷ []

unfoldable pub lines_from : List ℕ → List ℕ → List (List ℕ)
lines_from line [] = last_line line
lines_from line (b ∷ l) = if eqb b 0x0A then (line ++ (b ∷ [])) ∷ lines_from [] l else lines_from (line ++ (b ∷ [])) l

abbrev pub lines_of : List ℕ → List (List ℕ)
lines_of log = lines_from [] log

-- ---- the line of the code: its first seven bytes, counted to seven, since no line of an event is longer than six

unfoldable pub blank : Line
blank = record { count = 0; bytes = replicate 7 0 }

unfoldable pub put : Line → ℕ → Line
put l b = if ltb l.count 7 then record { count = l.count + 1; bytes = set l.bytes l.count b } else l

abbrev pub text_of : Line → List ℕ
text_of l = take l.count l.bytes

-- the code's Option of an event
abbrev pub meaning_of : Option Event → std.Option Event
meaning_of none = None
meaning_of (some e) = Some e

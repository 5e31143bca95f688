-- R17.4: the program `arrange`: on standard input a line with the order of the channels, sixteen decimal numbers with
-- a comma between each two, and behind it the log; on standard output the 38 bytes of the message, nothing beside a
-- number; on standard error a line `number,line,message`. All text is ASCII, and every line ends with byte 0AH.
-- Assumes nothing.
use Rattle.std.specs.Prelude.{ℕ, ◌+◌, Bool, true, false, not, ◌&&◌, List, [], ◌∷◌, ◌++◌, map, leb, ltb, eqb, length, take, set, replicate, if◌then◌else◌}
use Rattle.loops.specs.Cases.{at_most}
use Rattle.text.specs.Text.{decimal, hexadecimals}
use Rattle.fields.specs.declared.Line.{Line}
use Rattle.fields.specs.Line.{new_line, read}
use Rattle.fields.specs.Fields.{is_number, spelled}
use Rattle.arranging.specs.declared.Written.{Written}
use Rattle.arranging.specs.Arranging.{message}
use Rattle.arranging.specs.Run.{begun, byte_heard, finished}
use Rattle.log_lines.specs.declared.OrderLine.{OrderLine}
use Rattle.log_lines.specs.declared.Reading.{Reading}
use Rattle.log_lines.specs.declared.Reading.TheVariants.{Order, Log}

-- ---- the order's line, byte by byte

abbrev pub order_line : Line → ℕ → List ℕ → OrderLine
order_line number count channels = record { number = number; count = count; channels = channels }

-- a line of which nothing is read yet, and one that no byte makes an order any more
abbrev pub new_order : OrderLine
new_order = order_line new_line 0 (replicate 16 0)

abbrev pub lost : OrderLine
lost = order_line new_line 17 (replicate 16 0)

-- a number with a digit, behind fewer than sixteen, is put behind them: at a comma, and at the line's end. One above
-- 255, which is no channel, is kept as 255
abbrev pub is_put : OrderLine → Bool
is_put c = c.number.digit && eqb c.number.commas 0 && ltb c.count 16

unfoldable pub put_away : OrderLine → OrderLine
put_away c =
    if is_put c
    then order_line new_line (c.count + 1) (set c.channels c.count (at_most 255 c.number.last))
    else lost

-- a byte of the line, and several
unfoldable pub order_byte : OrderLine → ℕ → OrderLine
order_byte c b = if eqb b 44 then put_away c else order_line (read c.number b) c.count c.channels

unfoldable pub order_bytes : OrderLine → List ℕ → OrderLine
order_bytes c [] = c
order_bytes c (b ∷ bs) = order_bytes (order_byte c b) bs

-- the channels of a line that has ended: none of one that is lost, which is refused with 16 as every list of too few is
abbrev pub usable : ℕ → ℕ
usable count = if leb count 16 then count else 0

unfoldable pub order_in : OrderLine → List ℕ
order_in c = take (usable (put_away c).count) (put_away c).channels

-- ---- the input, byte by byte

abbrev pub new_reading : Reading
new_reading = Order new_order

-- 0AH ends the order's line, and what comes behind it is the log
unfoldable pub byte_read : Reading → ℕ → Reading
byte_read (Order o) b = if eqb b 10 then Log (begun (order_in o)) else Order (order_byte o b)
byte_read (Log r) b = Log (byte_heard r b)

unfoldable pub bytes_read : Reading → List ℕ → Reading
bytes_read c [] = c
bytes_read c (b ∷ bs) = bytes_read (byte_read c b) bs

-- several reads, one behind the other
abbrev pub parts_read : Reading → List (List ℕ) → Reading
parts_read c [] = c
parts_read c (p ∷ ps) = parts_read (bytes_read c p) ps

-- a number has fallen; nothing behind it changes the answer (proofs/Input.antt)
unfoldable pub is_known : Reading → Bool
is_known (Order o) = false
is_known (Log r) = not (eqb r.song.number 0)

-- the end of the input: an order's line without its 0AH is taken all the same, with a log of no lines
unfoldable pub ended : Reading → Written
ended (Order o) = finished (begun (order_in o))
ended (Log r) = finished r

-- ---- the answer

-- what standard output gets
unfoldable pub message_of : Written → List ℕ
message_of w = if eqb w.number 0 then w.bytes else []

-- what standard error gets
unfoldable pub written_line : Written → List ℕ
written_line w = decimal w.number ++ (44 ∷ decimal w.line) ++ (44 ∷ hexadecimals w.bytes) ++ (10 ∷ [])

-- ---- an input as a whole: that its bytes come to this, in whatever parts they are read, is in proofs/Input.antt

-- its first line, without the 0AH, and what stands behind it
unfoldable pub first_line : List ℕ → List ℕ
first_line [] = []
first_line (b ∷ bs) = if eqb b 10 then [] else b ∷ first_line bs

unfoldable pub behind_first : List ℕ → List ℕ
behind_first [] = []
behind_first (b ∷ bs) = if eqb b 10 then bs else behind_first bs

-- the message of the log behind the first line, by the order that that line is
unfoldable pub arranged : List ℕ → Written
arranged input = message (order_in (order_bytes new_order (first_line input))) (behind_first input)

-- R17.4: and what standard output and standard error get for it
abbrev pub standard_output : List ℕ → List ℕ
standard_output input = message_of (arranged input)

abbrev pub standard_error : List ℕ → List ℕ
standard_error input = written_line (arranged input)

-- ---- the order's line by its fields, cut at its commas (crate `fields`, specs/Fields); that it is read so is in
-- proofs/Sentences.antt

-- a comma before each field
abbrev pub parted : List (List ℕ) → List ℕ
parted [] = []
parted (g ∷ gs) = 44 ∷ (g ++ parted gs)

unfoldable pub are_numbers : List (List ℕ) → Bool
are_numbers [] = true
are_numbers (g ∷ gs) = is_number g && are_numbers gs

-- a field's number, one that is larger as 255
abbrev pub channel_in : List ℕ → ℕ
channel_in g = at_most 255 (spelled 0 g)

-- the order that fields are: their numbers, where all are numbers and no more than sixteen; else none
unfoldable pub fields_order : List (List ℕ) → List ℕ
fields_order gs = if are_numbers gs && leb (length gs) 16 then map channel_in gs else []

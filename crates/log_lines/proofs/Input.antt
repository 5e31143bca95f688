-- An input, in whatever parts it is read, comes to the message of the log behind its first line, by the order that that
-- line is; and once a number has fallen, what is behind it changes nothing.
-- Assumes nothing.
use Rattle.std.specs.Prelude.{if◌then◌else◌}
use Prim.Native.Nat.{ℕ, ◌+◌, ◌-◌, ◌≤◌, ◌<◌}
use mathlib.Core.Path.{◌≡◌, refl, sym, ap, ◌∙◌}
use mathlib.Core.Bool.{Bool, true, false, false≢true}
use mathlib.Core.List.{List, [], ◌∷◌, ◌++◌}
use native.Mathlib.Numerals.{add-one}
use native.Mathlib.Omega.{arith}
use lib.Dec.{eqb}
use lib.ListN.{length, take, drop, get_or, drop_of_length-le, length-drop}
use lib.Seq.{drop-cons, take_all}
use borrow.Author.Tests.{eq-eqb, ne_eqb, not-true}
use Rattle.arranging.specs.declared.Run.{Run}
use Rattle.arranging.specs.Arranging.{message}
use Rattle.arranging.specs.Run.{joined, begun, byte_heard, heard}
use Rattle.arranging.proofs.Parts.{stays, parts}
use Rattle.log_lines.specs.declared.OrderLine.{OrderLine}
use Rattle.log_lines.specs.declared.Reading.{Reading}
use Rattle.log_lines.specs.declared.Reading.TheVariants.{Order, Log}
use Rattle.log_lines.specs.LogLines.{new_order, order_byte, order_bytes, order_in, new_reading}
use Rattle.log_lines.specs.LogLines.{byte_read, bytes_read, parts_read, is_known, ended, message_of, written_line}
use Rattle.log_lines.specs.LogLines.{first_line, behind_first, arranged, standard_output, standard_error}

-- ---- the bytes of a read

-- in the log
pub all_heard : (r : Run) (bs : List ℕ) → bytes_read (Log r) bs ≡ Log (heard r bs)
unfolding bytes_read byte_read heard
all_heard r [] = refl
all_heard r (b ∷ bs) = all_heard (byte_heard r b) bs

-- in the order's line, at turn i of a loop: its end, and any other byte
module _ (bs : List ℕ) (i : ℕ) (h : i < length bs) (o : OrderLine) where
  turn : bytes_read (Order o) (drop i bs) ≡ bytes_read (byte_read (Order o) (get_or bs i 0)) (drop (i + 1) bs)
  unfolding bytes_read
  turn = rw (add-one i) (ap (bytes_read (Order o)) (drop-cons bs i 0 h))

  -- what is lent of the part is all that stands behind the place
  rest : take (length bs - (i + 1)) (drop (i + 1) bs) ≡ drop (i + 1) bs
  rest = take_all (length bs - (i + 1)) (drop (i + 1) bs) (let n = length-drop (i + 1) bs in omega arith)

  pub at_end : get_or bs i 0 ≡ 10
      → bytes_read (Order o) (drop i bs)
      ≡ Log (heard (begun (order_in o)) (take (length bs - (i + 1)) (drop (i + 1) bs)))
  unfolding byte_read
  at_end e = turn ∙ rw (eq-eqb (get_or bs i 0) 10 e, rest) (all_heard (begun (order_in o)) (drop (i + 1) bs))

  pub at_byte : (get_or bs i 0 ≡ 10 → ⊥)
      → bytes_read (Order o) (drop i bs) ≡ bytes_read (Order (order_byte o (get_or bs i 0))) (drop (i + 1) bs)
  unfolding byte_read
  at_byte e = turn ∙ rw (ne_eqb (get_or bs i 0) 10 e)

pub no_more : (bs : List ℕ) (i : ℕ) (c : Reading) → length bs ≤ i → bytes_read c (drop i bs) ≡ c
unfolding bytes_read
no_more bs i c h = ap (bytes_read c) (drop_of_length-le bs h)

-- ---- the input as a whole

from_order : (o : OrderLine) (bs : List ℕ)
    → ended (bytes_read (Order o) bs) ≡ message (order_in (order_bytes o (first_line bs))) (behind_first bs)
unfolding bytes_read byte_read ended heard first_line behind_first order_bytes
from_order o [] = parts (order_in o) []
from_order o (b ∷ bs) = go (eqb b 10) (from_order (order_byte o b) bs)
  where
    go : (x : Bool) → ended (bytes_read (Order (order_byte o b)) bs)
        ≡ message (order_in (order_bytes (order_byte o b) (first_line bs))) (behind_first bs)
        → ended (bytes_read (if x then Log (begun (order_in o)) else Order (order_byte o b)) bs)
        ≡ message (order_in (order_bytes o (if x then [] else b ∷ first_line bs))) (if x then bs else behind_first bs)
    go true ih = ap ended (all_heard (begun (order_in o)) bs) ∙ parts (order_in o) bs
    go false ih = ih

pub input_read : (input : List ℕ) → ended (bytes_read new_reading input) ≡ arranged input
unfolding arranged
input_read input = from_order new_order input

-- in parts
read-append : (c : Reading) (a b : List ℕ) → bytes_read c (a ++ b) ≡ bytes_read (bytes_read c a) b
unfolding bytes_read
read-append c [] b = refl
read-append c (x ∷ a) b = read-append (byte_read c x) a b

parts_read_lem : (c : Reading) (ps : List (List ℕ)) → parts_read c ps ≡ bytes_read c (joined ps)
unfolding bytes_read
parts_read_lem c [] = refl
parts_read_lem c (p ∷ ps) = parts_read_lem (bytes_read c p) ps ∙ sym (read-append c p (joined ps))

pub any_parts : (ps : List (List ℕ)) → ended (parts_read new_reading ps) ≡ arranged (joined ps)
any_parts ps = ap ended (parts_read_lem new_reading ps) ∙ input_read (joined ps)

-- ---- a number has fallen

pub known : (c : Reading) (bs : List ℕ) → is_known c ≡ true → ended (bytes_read c bs) ≡ ended c
unfolding is_known ended heard
known (Order o) bs e = absurd (false≢true e)
known (Log r) bs e =
    let n = not-true (eqb r.song.number 0) e in
    rw (all_heard r bs) (stays bs r.song r.line n ∙ sym (stays [] r.song r.line n))

-- so the answer that is given at once is that of the whole input
pub at_once : (ps : List (List ℕ)) (rest : List ℕ) → is_known (parts_read new_reading ps) ≡ true
    → ended (parts_read new_reading ps) ≡ arranged (joined ps ++ rest)
at_once ps rest e =
    sym (known (parts_read new_reading ps) rest e)
    ∙ ap (λ (c : Reading). ended (bytes_read c rest)) (parts_read_lem new_reading ps)
    ∙ ap ended (sym (read-append new_reading (joined ps) rest))
    ∙ input_read (joined ps ++ rest)

-- ---- what is written of it

-- a page that has room for what is put at its start has it whole before the place that is answered
pub output_written : (ps : List (List ℕ)) (page : List ℕ) (used : ℕ)
    → take used page ≡ message_of (ended (parts_read new_reading ps)) → take used page ≡ standard_output (joined ps)
output_written ps page used e = e ∙ ap message_of (any_parts ps)

pub error_written : (ps : List (List ℕ)) (page : List ℕ) (used : ℕ)
    → take used page ≡ written_line (ended (parts_read new_reading ps)) → take used page ≡ standard_error (joined ps)
error_written ps page used e = e ∙ ap written_line (any_parts ps)

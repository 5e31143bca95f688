-- How a line is read: by its length, the digits and the letter. That this is `event_of`, the event whose line it is, is
-- proved in proofs/Lines.antt; no promise to a caller rests on these words.
-- Assumes nothing.
use Rattle.std.specs.Prelude.{ℕ, ◌+◌, ◌-◌, ◌*◌, Bool, false, ◌&&◌, not, List, [], ◌∷◌, eqb, leb, ltb, fold, if◌then◌else◌}
use Rattle.std.proofs.Math.Option.{Option, some, none}
use Rattle.events.specs.declared.Event.{Event}
use Rattle.events.specs.declared.Event.TheVariants.{Byte, Report}

abbrev pub is_digit : ℕ → Bool
is_digit x = leb 48 x && leb x 57

-- one to three digits, of which the first of several is not 0
abbrev pub are_digits : List ℕ → Bool
are_digits [] = false
are_digits (x ∷ []) = is_digit x
are_digits (x ∷ y ∷ []) = not (eqb x 48) && (is_digit x && is_digit y)
are_digits (x ∷ y ∷ z ∷ []) = not (eqb x 48) && (is_digit x && (is_digit y && is_digit z))
are_digits (x ∷ y ∷ z ∷ e ∷ l) = false

abbrev pub number : List ℕ → ℕ
number digits = fold (λ n d. 10 * n + (d - 48)) 0 digits

unfoldable pub event_by : ℕ → ℕ → Option Event
event_by k v =
    if eqb k 98 && ltb v 256 then some (Byte v) else
    if eqb k 101 && ltb v 64 then some (Report v) else
    none

-- the comma, the end and the digits are right, and the first of several digits is not 0
unfoldable pub right : ℕ → ℕ → Bool → Bool
right c e digits = eqb c 44 && (eqb e 0x0A && digits)

unfoldable pub parse : List ℕ → Option Event
parse [] = none
parse (k ∷ []) = none
parse (k ∷ c ∷ []) = none
parse (k ∷ c ∷ x ∷ []) = none
parse (k ∷ c ∷ x ∷ e ∷ []) = if right c e (is_digit x) then event_by k (x - 48) else none
parse (k ∷ c ∷ x ∷ y ∷ e ∷ []) =
    if right c e (not (eqb x 48) && (is_digit x && is_digit y)) then event_by k (10 * (x - 48) + (y - 48)) else none
parse (k ∷ c ∷ x ∷ y ∷ z ∷ e ∷ []) =
    if right c e (not (eqb x 48) && (is_digit x && (is_digit y && is_digit z)))
    then event_by k (100 * (x - 48) + 10 * (y - 48) + (z - 48))
    else none
parse (k ∷ c ∷ x ∷ y ∷ z ∷ e ∷ f ∷ l) = none

-- What an input is answered, said of its lines and their fields and not of bytes one by one.
-- Assumes nothing.
use Rattle.std.specs.Prelude.{if◌then◌else◌}
use Prim.Native.Nat.{ℕ, ◌≤◌, ◌<◌}
use mathlib.Core.Path.{◌≡◌, refl, sym, ap, ◌∙◌}
use mathlib.Core.Bool.{Bool, true, false, not, ◌&&◌}
use mathlib.Core.List.{List, [], ◌∷◌, ◌++◌, map, append_assoc}
use native.Mathlib.Omega.{arith}
use lib.Dec.{ltb, eqb}
use lib.ListN.{length, length-map}
use borrow.Author.Tests.{ltb-true, le-leb, lt-leb, not-true}
use Rattle.text.specs.Text.{decimal}
use Rattle.fields.specs.Fields.{is_field, are_fields, behind, is_number}
use Rattle.fields.proofs.Numbers.{both}
use Rattle.fields.proofs.Written.{written}
use Rattle.order.specs.Order.{is_order}
use Rattle.arranging.specs.Arranging.{refused, message}
use Rattle.log_lines.specs.LogLines.{put_away, order_bytes, order_in, first_line, behind_first}
use Rattle.log_lines.specs.LogLines.{arranged, parted, are_numbers, channel_in, fields_order}
use Rattle.log_lines.proofs.Order.{line_order}

-- ---- the first line, and what stands behind it

-- a text without 0AH
abbrev is_line : List ℕ → Bool
is_line [] = true
is_line (x ∷ xs) = not (eqb x 10) && is_line xs

field-line : (f ys : List ℕ) → is_field f ≡ true → is_line ys ≡ true → is_line (f ++ ys) ≡ true
unfolding is_field
field-line [] ys e h = h
field-line (x ∷ f) ys e h =
    let p = both (not (eqb x 44)) (not (eqb x 10) && is_field f) e in
    let q = both (not (eqb x 10)) (is_field f) p.1 in
    rw q.0 (field-line f ys q.1 h)

parted-line : (gs : List (List ℕ)) → are_fields gs ≡ true → is_line (parted gs) ≡ true
unfolding are_fields
parted-line [] e = refl
parted-line (g ∷ gs) e =
    let p = both (is_field g) (are_fields gs) e in
    field-line g (parted gs) p.0 (parted-line gs p.1)

first_ended : (xs log : List ℕ) → is_line xs ≡ true
    → (first_line (xs ++ (10 ∷ log)) ≡ xs) × (behind_first (xs ++ (10 ∷ log)) ≡ log)
unfolding first_line behind_first
first_ended [] log e = (refl, refl)
first_ended (x ∷ xs) log e =
    let p = both (not (eqb x 10)) (is_line xs) e in
    let r = first_ended xs log p.1 in
    rw (not-true (eqb x 10) p.0) (ap (λ (l : List ℕ). x ∷ l) r.0, r.1)

first_alone : (xs : List ℕ) → is_line xs ≡ true → (first_line xs ≡ xs) × (behind_first xs ≡ [])
unfolding first_line behind_first
first_alone [] e = (refl, refl)
first_alone (x ∷ xs) e =
    let p = both (not (eqb x 10)) (is_line xs) e in
    let r = first_alone xs p.1 in
    rw (not-true (eqb x 10) p.0) (ap (λ (l : List ℕ). x ∷ l) r.0, r.1)

behind-parted : (gs : List (List ℕ)) → behind gs ≡ parted gs ++ (10 ∷ [])
behind-parted [] = refl
behind-parted (g ∷ gs) = ap (λ (l : List ℕ). 44 ∷ l)
    (ap (λ (l : List ℕ). g ++ l) (behind-parted gs) ∙ sym (append_assoc g (parted gs) (10 ∷ [])))

-- ---- an input

module _ (f : List ℕ) (gs : List (List ℕ)) (e : is_field f ≡ true) (es : are_fields gs ≡ true) where
  line : is_line (f ++ parted gs) ≡ true
  line = field-line f (parted gs) e (parted-line gs es)

  -- the log behind a first line is answered by the order that the line's fields are
  pub line-arranged : (log : List ℕ) → arranged (f ++ behind gs ++ log) ≡ message (fields_order (f ∷ gs)) log
  unfolding arranged
  line-arranged log =
      let r = first_ended (f ++ parted gs) log line in
      let t : f ++ behind gs ++ log ≡ f ++ parted gs ++ (10 ∷ log) =
      ap (λ (l : List ℕ). f ++ l ++ log) (behind-parted gs)
      ∙ ap (λ (l : List ℕ). l ++ log) (sym (append_assoc f (parted gs) (10 ∷ [])))
      ∙ append_assoc (f ++ parted gs) (10 ∷ []) log in
      rw (t, r.0, r.1, line_order f gs e es)

  -- a first line without its 0AH, which ends the input, as with it and a log of no lines
  pub last_line : arranged (f ++ parted gs) ≡ message (fields_order (f ∷ gs)) []
  unfolding arranged
  last_line = let r = first_alone (f ++ parted gs) line in rw (r.0, r.1, line_order f gs e es)

-- fields that are no numbers, or more than sixteen, and an empty input, are refused with 16, whatever the log is
pub no_order_lem : (log : List ℕ) → message [] log ≡ refused 16 0
unfolding message is_order
no_order_lem log = refl

pub no_numbers : (gs : List (List ℕ)) (log : List ℕ)
    → are_numbers gs ≡ false → message (fields_order gs) log ≡ refused 16 0
unfolding fields_order
no_numbers gs log e = rw e (no_order_lem log)

pub nothing : arranged [] ≡ refused 16 0
unfolding arranged first_line behind_first order_bytes put_away order_in
nothing = no_order_lem []

pub too_many : (gs : List (List ℕ)) (log : List ℕ) → 16 < length gs → message (fields_order gs) log ≡ refused 16 0
unfolding fields_order
too_many gs log h = rw (lt-leb (length gs) 16 h) (go (are_numbers gs))
  where
    go : (x : Bool) → message (if x && false then map channel_in gs else []) log ≡ refused 16 0
    go true = no_order_lem log
    go false = no_order_lem log

-- ---- an order in decimal

-- numbers of at most three digits, each a byte
abbrev are_bytes : List ℕ → Bool
are_bytes [] = true
are_bytes (c ∷ cs) = ltb c 256 && are_bytes cs

decimal_number : (c : ℕ) → c < 256 → (is_number (decimal c) ≡ true) × (channel_in (decimal c) ≡ c)
decimal_number c h =
    let w = written 19 c (omega arith) in
    (w.number, rw w.is (omega arith))

decimals : (cs : List ℕ) → are_bytes cs ≡ true
    → (are_numbers (map decimal cs) ≡ true) × (map channel_in (map decimal cs) ≡ cs)
unfolding are_numbers
decimals [] e = (refl, refl)
decimals (c ∷ cs) e =
    let p = both (ltb c 256) (are_bytes cs) e in
    let w = decimal_number c (ltb-true c 256 p.0) in
    let r = decimals cs p.1 in
    (rw w.0 r.0, rw w.1 (ap (λ (l : List ℕ). c ∷ l) r.1))

pub decimal_order : (cs : List ℕ) → are_bytes cs ≡ true → length cs ≤ 16 → fields_order (map decimal cs) ≡ cs
unfolding fields_order
decimal_order cs e h =
    let d = decimals cs e in
    let n : length (map decimal cs) ≡ length cs = length-map cs decimal in
    rw (d.0, n, le-leb (length cs) 16 h) d.1

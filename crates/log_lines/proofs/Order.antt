-- The order's line, field by field: a number is put behind those before it, while there is a place; a field that is no
-- number, or one too many, leaves a line that no byte makes an order any more.
-- Assumes nothing.
use Rattle.std.specs.Prelude.{if◌then◌else◌}
use Prim.Native.Nat.{ℕ, suc, ◌+◌, ◌-◌, ◌*◌, ◌≤◌, ◌<◌}
use mathlib.Core.Path.{◌≡◌, refl, sym, ap, ◌∙◌}
use mathlib.Core.Bool.{Bool, true, false, not, ◌&&◌}
use mathlib.Core.List.{List, [], ◌∷◌, ◌++◌, map, append_assoc}
use native.Mathlib.Numerals.{add-one}
use native.Mathlib.Omega.{arith}
use lib.Dec.{leb, ltb, eqb}
use lib.ListN.{length, take, set, length-set}
use lib.Seq.{take-suc-set}
use borrow.Author.Tests.{lt-ltb, le-ltb, ltb-true, ltb-false, le-leb, lt-leb, leb-true, ne_eqb, not-true}
use Rattle.loops.specs.Cases.{at_most}
use Rattle.fields.specs.Line.{new_line, malformed, kept, is_digit, after_digit, after_comma, read}
use Rattle.fields.specs.Fields.{is_field, are_fields, number_from, is_number, spelled}
use Rattle.fields.proofs.Numbers.{both, at, kept_digit}
use Rattle.log_lines.specs.declared.OrderLine.{OrderLine}
use Rattle.log_lines.specs.LogLines.{order_line, new_order, lost, put_away, order_byte}
use Rattle.log_lines.specs.LogLines.{order_bytes, order_in, parted, are_numbers, channel_in, fields_order}

-- ---- a line that no byte makes an order any more

-- whether a digit would make its number one that is put away
abbrev is_open : OrderLine → Bool
is_open c = eqb c.number.commas 0 && ltb c.count 16

shut : (c : OrderLine) → is_open c ≡ false → put_away c ≡ lost
unfolding put_away
shut c e = rw (go c.number.digit (eqb c.number.commas 0) (ltb c.count 16) e)
  where
    go : (d o p : Bool) → o && p ≡ false → d && o && p ≡ false
    go true o p e = e
    go false o p e = refl

shut_byte : (c : OrderLine) (b : ℕ) → is_open c ≡ false → is_open (order_byte c b) ≡ false
unfolding order_byte read after_digit
shut_byte c b e = go (eqb b 44) (is_digit b)
  where
    go : (x d : Bool) → is_open (if x then put_away c else order_line (if d then after_digit c.number (b - 48)
        else (if x && (c.number.digit && ltb c.number.commas 2) then after_comma c.number else malformed))
        c.count c.channels) ≡ false
    go true d = rw (shut c e)
    go false true = e
    go false false = refl

shut_bytes : (c : OrderLine) (bs : List ℕ) → is_open c ≡ false → order_in (order_bytes c bs) ≡ []
unfolding order_bytes order_in
shut_bytes c [] e = rw (shut c e)
shut_bytes c (b ∷ bs) e = shut_bytes (order_byte c b) bs (shut_byte c b e)

-- ---- a field

module _ (k : ℕ) (channels : List ℕ) where
  -- a line within a number, behind k others
  abbrev within : Bool → ℕ → OrderLine
  within d n = order_line (at 0 d 0 0 n) k channels

  digit-read : (d : Bool) (n x : ℕ) → is_digit x ≡ true → order_byte (within d n) x ≡ within true (10 * n + (x - 48))
  unfolding order_byte at read after_digit
  digit-read d n x e =
      let h = leb-true 48 x (both (leb 48 x) (leb x 57) e).0 in
      rw (ne_eqb x 44 (λ q. omega arith), e, kept_digit n (x - 48))

  number_read : (d : Bool) (n : ℕ) (xs ys : List ℕ) → number_from d xs ≡ true
      → order_bytes (within d n) (xs ++ ys) ≡ order_bytes (within true (spelled n xs)) ys
  unfolding number_from spelled order_bytes
  number_read d n [] ys e = rw e
  number_read d n (x ∷ xs) ys e =
      let h = both (is_digit x) (number_from true xs) e in
      ap (λ (c : OrderLine). order_bytes c (xs ++ ys)) (digit-read d n x h.0)
      ∙ number_read true (10 * n + (x - 48)) xs ys h.1

  -- a field that is no number: at its first byte that is no digit, or, if it is empty, at its end
  empty-read : (n : ℕ) (gs : List (List ℕ)) → order_in (order_bytes (within false n) (parted gs)) ≡ []
  unfolding order_bytes order_byte order_in put_away at
  empty-read n [] = refl
  empty-read n (g ∷ gs) = shut_bytes lost (g ++ parted gs) refl

  other-read : (d : Bool) (n x : ℕ) → eqb x 44 ≡ false → is_digit x ≡ false → is_open (order_byte (within d n) x) ≡ false
  unfolding order_byte read
  other-read d n x e f = rw (e, f)

  no_number : (d : Bool) (n : ℕ) (f : List ℕ) (gs : List (List ℕ)) → is_field f ≡ true
      → number_from d f ≡ false → order_in (order_bytes (within d n) (f ++ parted gs)) ≡ []
  unfolding is_field number_from order_bytes
  no_number d n [] gs e z = rw z (empty-read n gs)
  no_number d n (x ∷ f) gs e z =
      let p = both (not (eqb x 44)) (not (eqb x 10) && is_field f) e in
      let q = both (not (eqb x 10)) (is_field f) p.1 in
      go (is_digit x) refl z (not-true (eqb x 44) p.0) (λ y. no_number true (10 * n + (x - 48)) f gs q.1 y)
    where
      go : (b : Bool) → is_digit x ≡ b → b && number_from true f ≡ false → eqb x 44 ≡ false
          → (number_from true f ≡ false → order_in (order_bytes (within true (10 * n + (x - 48))) (f ++ parted gs)) ≡ [])
          → order_in (order_bytes (order_byte (within d n) x) (f ++ parted gs)) ≡ []
      go true b y c ih = ap (λ (o : OrderLine). order_in (order_bytes o (f ++ parted gs))) (digit-read d n x b) ∙ ih y
      go false b y c ih = shut_bytes (order_byte (within d n) x) (f ++ parted gs) (other-read d n x c b)

  -- a number behind fewer than sixteen, and behind more
  abbrev behind-it : ℕ → List ℕ
  behind-it n = set channels k (at_most 255 n)

  cut-255 : (n : ℕ) → at_most 255 (kept n) ≡ at_most 255 n
  cut-255 n = omega arith

  put-number : (n : ℕ) → k < 16 → put_away (within true n) ≡ order_line new_line (k + 1) (behind-it n)
  unfolding put_away at
  put-number n h = rw (lt-ltb k 16 h, cut-255 n)

  too_many : (d : Bool) (n : ℕ) → 16 ≤ k → is_open (within d n) ≡ false
  unfolding at
  too_many d n h = le-ltb k 16 h

  kept-behind : (n : ℕ) → k < 16 → length channels ≡ 16
      → take (k + 1) (behind-it n) ≡ take k channels ++ (at_most 255 n ∷ [])
  kept-behind n h l = rw (add-one k) (take-suc-set channels k (at_most 255 n) (omega arith))

-- ---- the fields

-- what fields behind k numbers come to
abbrev order_from : ℕ → List ℕ → List (List ℕ) → List ℕ
order_from k before gs = if are_numbers gs && leb (k + length gs) 16 then before ++ map channel_in gs else []

full : (k : ℕ) (before : List ℕ) (gs : List (List ℕ)) → 16 < k + length gs → order_from k before gs ≡ []
full k before gs h = rw (lt-leb (k + length gs) 16 h) (go (are_numbers gs))
  where
    go : (x : Bool) → (if x && false then before ++ map channel_in gs else []) ≡ []
    go true = refl
    go false = refl

one_more : (k : ℕ) (before : List ℕ) (f g : List ℕ) (gs : List (List ℕ)) → is_number f ≡ true
    → order_from (k + 1) (before ++ (channel_in f ∷ [])) (g ∷ gs) ≡ order_from k before (f ∷ g ∷ gs)
unfolding are_numbers
one_more k before f g gs e =
    let n : k + 1 + suc (length gs) ≡ k + suc (suc (length gs)) = omega arith in
    rw (e, n, append_assoc before (channel_in f ∷ []) (channel_in g ∷ map channel_in gs))

module _ (k : ℕ) (channels : List ℕ) where
  last-in : (n : ℕ) → k < 16 → length channels ≡ 16
      → order_in (within k channels true n) ≡ take k channels ++ (at_most 255 n ∷ [])
  unfolding order_in
  last-in n h l = rw (put-number k channels n h, le-leb (k + 1) 16 (omega arith)) (kept-behind k channels n h l)

  -- the last field
  last-read : (f : List ℕ) → length channels ≡ 16 → is_field f ≡ true
      → order_in (order_bytes (within k channels false 0) (f ++ [])) ≡ order_from k (take k channels) (f ∷ [])
  unfolding are_numbers order_bytes
  last-read f l e = go (is_number f) (ltb k 16) refl refl
    where
      go : (b p : Bool) → is_number f ≡ b → ltb k 16 ≡ p
          → order_in (order_bytes (within k channels false 0) (f ++ []))
          ≡ (if b && true && leb (k + 1) 16 then take k channels ++ (channel_in f ∷ []) else [])
      go true true z h =
          let n = ltb-true k 16 h in
          ap order_in (number_read k channels false 0 f [] z)
          ∙ rw (le-leb (k + 1) 16 (omega arith)) (last-in (spelled 0 f) n l)
      go true false z h =
          let n = ltb-false k 16 h in
          ap order_in (number_read k channels false 0 f [] z)
          ∙ rw (lt-leb (k + 1) 16 (omega arith))
          (shut_bytes (within k channels true (spelled 0 f)) [] (too_many k channels true (spelled 0 f) n))
      go false p z h = no_number k channels false 0 f [] e z

  -- a field with others behind it: the comma puts its number away
  module _ (f g : List ℕ) (gs : List (List ℕ)) where
    at-comma : is_number f ≡ true
        → order_bytes (within k channels false 0) (f ++ parted (g ∷ gs))
        ≡ order_bytes (put_away (within k channels true (spelled 0 f))) (g ++ parted gs)
    unfolding order_bytes order_byte
    at-comma z = number_read k channels false 0 f (parted (g ∷ gs)) z

    begun-anew : order_line new_line (k + 1) (behind-it k channels (spelled 0 f))
        ≡ within (k + 1) (behind-it k channels (spelled 0 f)) false 0
    unfolding at
    begun-anew = refl

    no_numbers : is_number f ≡ false → order_from k (take k channels) (f ∷ g ∷ gs) ≡ []
    unfolding are_numbers
    no_numbers z = rw z

  next-read : (f g : List ℕ) (gs : List (List ℕ)) → length channels ≡ 16 → is_field f ≡ true
      → (k < 16 → order_in (order_bytes (within (k + 1) (behind-it k channels (spelled 0 f)) false 0) (g ++ parted gs))
      ≡ order_from (k + 1) (take (k + 1) (behind-it k channels (spelled 0 f))) (g ∷ gs))
      → order_in (order_bytes (within k channels false 0) (f ++ parted (g ∷ gs)))
      ≡ order_from k (take k channels) (f ∷ g ∷ gs)
  next-read f g gs l e ih = go (is_number f) (ltb k 16) refl refl
    where
      go : (b p : Bool) → is_number f ≡ b → ltb k 16 ≡ p
          → order_in (order_bytes (within k channels false 0) (f ++ parted (g ∷ gs)))
          ≡ order_from k (take k channels) (f ∷ g ∷ gs)
      go true true z h =
          let n = ltb-true k 16 h in
          ap order_in (at-comma f g gs z ∙ ap (λ (c : OrderLine). order_bytes c (g ++ parted gs))
          (put-number k channels (spelled 0 f) n ∙ begun-anew f g gs))
          ∙ ih n
          ∙ ap (λ (x : List ℕ). order_from (k + 1) x (g ∷ gs)) (kept-behind k channels (spelled 0 f) n l)
          ∙ one_more k (take k channels) f g gs z
      go true false z h =
          let n = ltb-false k 16 h in
          ap order_in (at-comma f g gs z ∙ ap (λ (c : OrderLine). order_bytes c (g ++ parted gs))
          (shut (within k channels true (spelled 0 f)) (too_many k channels true (spelled 0 f) n)))
          ∙ shut_bytes lost (g ++ parted gs) refl
          ∙ sym (full k (take k channels) (f ∷ g ∷ gs) (omega arith))
      go false p z h = no_number k channels false 0 f (g ∷ gs) e z ∙ sym (no_numbers f g gs z)

fields_read : (k : ℕ) (channels : List ℕ) (f : List ℕ) (gs : List (List ℕ))
    → length channels ≡ 16 → is_field f ≡ true → are_fields gs ≡ true
    → order_in (order_bytes (within k channels false 0) (f ++ parted gs)) ≡ order_from k (take k channels) (f ∷ gs)
unfolding are_fields
fields_read k channels f [] l e es = last-read k channels f l e
fields_read k channels f (g ∷ gs) l e es =
    let p = both (is_field g) (are_fields gs) es in
    next-read k channels f g gs l e
    (λ h. fields_read (k + 1) (behind-it k channels (spelled 0 f)) g gs
    (length-set channels k (at_most 255 (spelled 0 f)) ∙ l) p.0 p.1)

-- a line is the order that its fields are
pub line_order : (f : List ℕ) (gs : List (List ℕ)) → is_field f ≡ true → are_fields gs ≡ true
    → order_in (order_bytes new_order (f ++ parted gs)) ≡ fields_order (f ∷ gs)
unfolding fields_order at
line_order f gs e es =
    let n : 0 + length (f ∷ gs) ≡ length (f ∷ gs) = omega arith in
    fields_read 0 new_order.channels f gs refl e es ∙ rw n

-- A line is worked out field by field: a field that is a number leaves its number, and any other makes the line
-- malformed, whatever comes behind it. So it is for every program that answers a line of so many numbers by them, one
-- that is too large as what it is kept as, and any other line by one text.
-- Assumes nothing.
use Rattle.std.specs.Prelude.{if◌then◌else◌}
use Prim.Native.Nat.{ℕ, ◌+◌, ◌-◌, ◌*◌, ◌≤◌, ◌<◌}
use mathlib.Core.Path.{◌≡◌, refl, ◌∙◌}
use mathlib.Core.Bool.{Bool, true, false, not, ◌&&◌}
use mathlib.Core.List.{List, [], ◌∷◌, ◌++◌}
use native.Mathlib.Omega.{arith}
use lib.Dec.{ltb, eqb, lit≤}
use borrow.Author.Tests.{le-ltb, ltb-true, ne_eqb, not-true}
use Rattle.fields.specs.declared.Line.{Line}
use Rattle.fields.specs.Line.{kept, malformed, is_digit, after_digit, after_comma, read}
use Rattle.fields.specs.Fields.{is_field, are_fields, behind, number_from, is_number, spelled}
use Rattle.fields.proofs.Parts.{from, from_byte, from_last}
use Rattle.fields.proofs.Numbers.{both, at, from_digit, from_number, from_comma}

-- how a program answers lines of so many commas: by three numbers, of which it may pass over the first, or by one text
pub record Reads (ended : Line → List ℕ) (commas : ℕ) (by : ℕ → ℕ → ℕ → List ℕ) (other : List ℕ) : Type 0 where
  pub few : commas < 3
  pub is : (c : Line)
      → ended c ≡ (if c.digit && eqb c.commas commas then by c.first c.previous c.last else other)
  pub cut : (k s n : ℕ) → by (kept k) (kept s) (kept n) ≡ by k s n

-- a line that no byte makes numbers any more is malformed
lost_on : (c : Line) (b : ℕ) → 3 ≤ c.commas → 3 ≤ (read c b).commas
unfolding read after_digit
lost_on c b h = rw (le-ltb c.commas 2 (omega arith)) (go (is_digit b) (eqb b 44) c.digit)
  where
    go : (x y z : Bool)
        → 3 ≤ (if x then after_digit c (b - 48) else (if y && (z && false) then after_comma c else malformed)).commas
    go true y z = h
    go false false z = omega arith
    go false true false = omega arith
    go false true true = omega arith

record First (x : ℕ) (f : List ℕ) : Type 0 where
  comma : eqb x 44 ≡ false
  end : eqb x 10 ≡ false
  others : is_field f ≡ true

first : (x : ℕ) (f : List ℕ) → is_field (x ∷ f) ≡ true → First x f
unfolding is_field
first x f e =
    let p = both (not (eqb x 44)) (not (eqb x 10) && is_field f) e in
    let q = both (not (eqb x 10)) (is_field f) p.1 in
    record { comma = not-true (eqb x 44) p.0; end = not-true (eqb x 10) q.0; others = q.1 }

-- a test that decides nothing
pub never : (x : Bool) {A : Type 0} (a b : A) → (if x && false then a else b) ≡ b
never true a b = refl
never false a b = refl

pub either : (x : Bool) {A : Type 0} (b : A) → (if x && true then b else b) ≡ b
either true b = refl
either false b = refl

module _ (commas : ℕ) (by : ℕ → ℕ → ℕ → List ℕ) (other : List ℕ) where
  -- what the fields of a line answer where r numbers are read, k and s the last of them
  unfoldable pub told : ℕ → ℕ → ℕ → List ℕ → List (List ℕ) → List ℕ
  told r k s f [] = if is_number f && eqb r commas then by k s (spelled 0 f) else other
  told r k s f (g ∷ gs) = if is_number f && ltb r 2 then told (r + 1) s (spelled 0 f) g gs else other

module _ (ended : Line → List ℕ) (commas : ℕ) (by : ℕ → ℕ → ℕ → List ℕ)
    (other : List ℕ) (reads : Reads ended commas by other) where
  lost-end : (c : Line) → 3 ≤ c.commas → ended c ≡ other
  lost-end c h =
      let f = reads.few in
      reads.is c ∙ rw (ne_eqb c.commas commas (λ e. omega arith)) (never c.digit _ _)

  -- every line that is lost and goes on so
  abbrev Lost : List ℕ → Type 0
  Lost bs = (c : Line) → 3 ≤ c.commas → from ended c bs ≡ other

  lost-field : (f bs : List ℕ) → is_field f ≡ true → Lost bs → Lost (f ++ bs)
  lost-field [] bs e l = l
  lost-field (x ∷ f) bs e l = λ c h.
      let p = first x f e in
      from_byte ended c x (f ++ bs) p.end ∙ lost-field f bs p.others l (read c x) (lost_on c x h)

  lost-behind : (gs : List (List ℕ)) → are_fields gs ≡ true → Lost (behind gs)
  unfolding are_fields
  lost-behind [] e = λ c h. from_last ended c ∙ lost-end c h
  lost-behind (g ∷ gs) e = λ c h.
      let p = both (is_field g) (are_fields gs) e in
      from_byte ended c 44 (g ++ behind gs) refl
      ∙ lost-field g (behind gs) p.0 (lost-behind gs p.1) (read c 44) (lost_on c 44 h)

  -- a field that is no number makes its line malformed: at its first byte that is no digit, or, if it is empty, at its
  -- end
  empty-field : (r k s n : ℕ) (gs : List (List ℕ)) → are_fields gs ≡ true
      → from ended (at r false k s n) (behind gs) ≡ other
  unfolding at read are_fields
  empty-field r k s n [] e = from_last ended (at r false k s n) ∙ reads.is (at r false k s n)
  empty-field r k s n (g ∷ gs) e =
      let p = both (is_field g) (are_fields gs) e in
      from_byte ended (at r false k s n) 44 (g ++ behind gs) refl
      ∙ lost-field g (behind gs) p.0 (lost-behind gs p.1) malformed (lit≤ tt)

  other_byte : (c : Line) (x : ℕ) (f : List ℕ) (gs : List (List ℕ))
      → is_field (x ∷ f) ≡ true → are_fields gs ≡ true → is_digit x ≡ false
      → from ended c (x ∷ (f ++ behind gs)) ≡ other
  unfolding read
  other_byte c x f gs e es z =
      let p = first x f e in
      from_byte ended c x (f ++ behind gs) p.end
      ∙ rw (z, p.comma) (lost-field f (behind gs) p.others (lost-behind gs es) malformed (lit≤ tt))

  no_number : (r k s : ℕ) (d : Bool) (n : ℕ) (f : List ℕ) (gs : List (List ℕ))
      → is_field f ≡ true → are_fields gs ≡ true → number_from d f ≡ false
      → from ended (at r d k s n) (f ++ behind gs) ≡ other
  unfolding number_from
  no_number r k s d n [] gs e es z = rw z (empty-field r k s n gs es)
  no_number r k s d n (x ∷ f) gs e es z =
      go (is_digit x) refl z (λ y. no_number r k s true (10 * n + (x - 48)) f gs (first x f e).others es y)
    where
      go : (b : Bool) → is_digit x ≡ b → (b && number_from true f) ≡ false
          → (number_from true f ≡ false → from ended (at r true k s (10 * n + (x - 48))) (f ++ behind gs) ≡ other)
          → from ended (at r d k s n) (x ∷ (f ++ behind gs)) ≡ other
      go true b y ih = from_digit ended r k s d n x (f ++ behind gs) b ∙ ih y
      go false b y ih = other_byte (at r d k s n) x f gs e es b

  last-field : (r k s : ℕ) (f : List ℕ) → is_number f ≡ true
      → from ended (at r false (kept k) (kept s) 0) (f ++ 10 ∷ [])
      ≡ (if eqb r commas then by k s (spelled 0 f) else other)
  unfolding at
  last-field r k s f e =
      from_number ended r (kept k) (kept s) false 0 f (10 ∷ []) e
      ∙ from_last ended (at r true (kept k) (kept s) (spelled 0 f))
      ∙ reads.is (at r true (kept k) (kept s) (spelled 0 f))
      ∙ rw (reads.cut k s (spelled 0 f))

  third-comma : (r k s n : ℕ) (g : List ℕ) (gs : List (List ℕ))
      → is_field g ≡ true → are_fields gs ≡ true → ltb r 2 ≡ false
      → from ended (at r true k s n) (44 ∷ (g ++ behind gs)) ≡ other
  unfolding at read
  third-comma r k s n g gs e es z = from_byte ended (at r true k s n) 44 (g ++ behind gs) refl
      ∙ rw z (lost-field g (behind gs) e (lost-behind gs es) malformed (lit≤ tt))

  pub fields_told : (r k s : ℕ) (f : List ℕ) (gs : List (List ℕ)) → is_field f ≡ true → are_fields gs ≡ true
      → from ended (at r false (kept k) (kept s) 0) (f ++ behind gs) ≡ told commas by other r k s f gs
  unfolding told are_fields
  fields_told r k s f [] e es = go (is_number f) refl
    where
      go : (b : Bool) → is_number f ≡ b
          → from ended (at r false (kept k) (kept s) 0) (f ++ 10 ∷ [])
          ≡ (if b && eqb r commas then by k s (spelled 0 f) else other)
      go true z = last-field r k s f z
      go false z = no_number r (kept k) (kept s) false 0 f [] e es z
  fields_told r k s f (g ∷ gs) e es =
      let p = both (is_field g) (are_fields gs) es in
      go (is_number f) (ltb r 2) refl refl (fields_told (r + 1) s (spelled 0 f) g gs p.0 p.1)
    where
      go : (b c : Bool) → is_number f ≡ b → ltb r 2 ≡ c
          → from ended (at (r + 1) false (kept s) (kept (spelled 0 f)) 0) (g ++ behind gs)
          ≡ told commas by other (r + 1) s (spelled 0 f) g gs
          → from ended (at r false (kept k) (kept s) 0) (f ++ (44 ∷ (g ++ behind gs)))
          ≡ (if b && c then told commas by other (r + 1) s (spelled 0 f) g gs else other)
      go true true z y ih =
          from_number ended r (kept k) (kept s) false 0 f (44 ∷ (g ++ behind gs)) z
          ∙ from_comma ended r (kept k) (kept s) (spelled 0 f) (g ++ behind gs) (ltb-true r 2 y)
          ∙ ih
      go true false z y ih =
          let p = both (is_field g) (are_fields gs) es in
          from_number ended r (kept k) (kept s) false 0 f (44 ∷ (g ++ behind gs)) z
          ∙ third-comma r (kept k) (kept s) (spelled 0 f) g gs p.0 p.1 y
      go false c z y ih = no_number r (kept k) (kept s) false 0 f (g ∷ gs) e es z

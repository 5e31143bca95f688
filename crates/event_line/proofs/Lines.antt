-- A line is the line of at most one event, and reading finds it: every line of an event is read as that event (one test
-- computed over all 320), and what is read spells the line.
-- Assumes nothing.
use Rattle.std.specs.Prelude.{if◌then◌else◌}
use mathlib.Core.Path.{◌≡◌, refl, sym, ap, ◌∙◌}
use mathlib.Core.Bool.{Bool, true, false, ◌&&◌, ◌||◌, not}
use mathlib.Core.List.{List, [], ◌∷◌, ◌++◌}
use mathlib.Core.Option.{Option, some, none}
use Prim.Native.Nat.{ℕ, zero, suc, ◌+◌, ◌-◌, ◌*◌, ◌/◌, ◌%◌, ◌≤◌, ◌<◌}
use native.Mathlib.Omega.{arith}
use borrow.Author.Tests.{ltb-true, ltb-false, leb-true, eqb-true, eqb-false, eq-eqb, lt-ltb, le-ltb, not-true}
use lib.Dec.{eqb, leb, ltb}
use lib.ListN.{take}
use Rattle.loops.specs.Passes.{up_to, first_of}
use Rattle.loops.proofs.Tests.{and_left, and_right, impossible}
use Rattle.events.specs.declared.Event.{Event}
use Rattle.events.specs.declared.Event.TheVariants.{Byte, Report}
use Rattle.event_line.specs.Log.{decimal, line_of, loggable, same, event_of}
use Rattle.event_line.specs.Parse.{is_digit, event_by, right, parse}

same_true : (l m : List ℕ) → same l m ≡ true → l ≡ m
same_true [] [] h = refl
same_true [] (y ∷ m) h = impossible (cc)
same_true (x ∷ l) [] h = impossible (cc)
same_true (x ∷ l) (y ∷ m) h =
    let a = eqb-true x y (and_left (eqb x y) (same l m) h) in
    let b = same_true l m (and_right (eqb x y) (same l m) h) in
    rw (a, b)

same_refl : (l : List ℕ) → same l l ≡ true
same_refl [] = refl
same_refl (x ∷ l) = rw (eq-eqb x x refl) (same_refl l)

-- ---- every line of an event is read as that event

abbrev is_event : Event → Option Event → Bool
is_event (Byte a) (some (Byte b)) = eqb a b
is_event (Report a) (some (Report b)) = eqb a b
is_event (Byte a) (some (Report b)) = false
is_event (Report a) (some (Byte b)) = false
is_event (Byte a) none = false
is_event (Report a) none = false

is_event_lem : (e : Event) (o : Option Event) → is_event e o ≡ true → o ≡ some e
is_event_lem (Byte a) (some (Byte b)) h = rw (eqb-true a b h)
is_event_lem (Report a) (some (Report b)) h = rw (eqb-true a b h)
is_event_lem (Byte a) (some (Report b)) h = impossible (cc)
is_event_lem (Report a) (some (Byte b)) h = impossible (cc)
is_event_lem (Byte a) none h = impossible (cc)
is_event_lem (Report a) none h = impossible (cc)

abbrev every : {A : Type 0} → (A → Bool) → List A → Bool
every p [] = true
every p (x ∷ l) = p x && every p l

abbrev is_read : Event → Bool
is_read e = is_event e (parse (line_of e))

all_read : every is_read loggable ≡ true
unfolding loggable up_to line_of decimal parse right event_by
all_read = refl

-- ---- what is read spells the line

-- R14.1: a byte from 0 to 255, a generator from 0 to 63
abbrev pub Loggable : Event → Type 0
Loggable (Byte b) = b < 256
Loggable (Report g) = g < 64

record Spelled (l : List ℕ) (e : Event) : Type 0 where
  line : l ≡ line_of e
  inside : Loggable e

module _ (k v : ℕ) (digits : List ℕ) (d : decimal v ≡ digits) where
  spelled : (e : Event) → event_by k v ≡ some e → Spelled (k ∷ 44 ∷ (digits ++ (0x0A ∷ []))) e
  unfolding event_by line_of
  spelled e h = go (eqb k 98) refl (ltb v 256) refl (eqb k 101) refl (ltb v 64) refl h
    where
      go : (a : Bool) → eqb k 98 ≡ a → (b : Bool) → ltb v 256 ≡ b
          → (a' : Bool) → eqb k 101 ≡ a' → (b' : Bool) → ltb v 64 ≡ b'
          → (if a && b then some (Byte v) else if a' && b' then some (Report v) else none) ≡ some e
          → Spelled (k ∷ 44 ∷ (digits ++ (0x0A ∷ []))) e
      go true p true q a' p' b' q' h =
          let x : Byte v ≡ e = cc in
          rw (← x) (record { line = rw (eqb-true k 98 p, d); inside = ltb-true v 256 q })
      go true p false q true p' b' q' h = let x = eqb-true k 98 p in let y = eqb-true k 101 p' in absurd (omega arith)
      go true p false q false p' b' q' h = impossible (cc)
      go false p b q true p' true q' h =
          let x : Report v ≡ e = cc in
          rw (← x) (record { line = rw (eqb-true k 101 p', d); inside = ltb-true v 64 q' })
      go false p b q true p' false q' h = impossible (cc)
      go false p b q false p' b' q' h = impossible (cc)

record Digit (x : ℕ) : Type 0 where
  low : 48 ≤ x
  high : x ≤ 57

digit : (x : ℕ) → is_digit x ≡ true → Digit x
digit x h = record {
  low = leb-true 48 x (and_left (leb 48 x) (leb x 57) h);
  high = leb-true x 57 (and_right (leb 48 x) (leb x 57) h);
}

not_zero : (x : ℕ) → not (eqb x 48) ≡ true → x ≡ 48 → ⊥
not_zero x h = eqb-false x 48 (not-true (eqb x 48) h)

decimal_1 : (x : ℕ) → Digit x → decimal (x - 48) ≡ x ∷ []
unfolding decimal
decimal_1 x h =
    let a = h.low in
    let b = h.high in
    let e : 48 + (x - 48) ≡ x = omega arith in
    rw (lt-ltb (x - 48) 10 (omega arith), e)

above : (x : ℕ) → (x ≡ 48 → ⊥) → 48 ≤ x → 49 ≤ x
above x n a = go (ltb x 49) refl
  where
    go : (t : Bool) → ltb x 49 ≡ t → 49 ≤ x
    go true e = let s = ltb-true x 49 e in absurd (n (omega arith))
    go false e = ltb-false x 49 e

decimal_2 : (x y : ℕ) → (x ≡ 48 → ⊥) → Digit x → Digit y → decimal (10 * (x - 48) + (y - 48)) ≡ x ∷ y ∷ []
unfolding decimal
decimal_2 x y n h k =
    let a = h.low in
    let b = h.high in
    let c = k.low in
    let d = k.high in
    let m = above x n a in
    let v = 10 * (x - 48) + (y - 48) in
    let e : 48 + v / 10 ≡ x = omega arith in
    let f : 48 + v % 10 ≡ y = omega arith in
    rw (le-ltb v 10 (omega arith), lt-ltb v 100 (omega arith), e, f)

decimal_3 : (x y z : ℕ) → (x ≡ 48 → ⊥) → Digit x → Digit y → Digit z
    → decimal (100 * (x - 48) + 10 * (y - 48) + (z - 48)) ≡ x ∷ y ∷ z ∷ []
unfolding decimal
decimal_3 x y z n h k l =
    let a = h.low in
    let b = h.high in
    let c = k.low in
    let d = k.high in
    let i = l.low in
    let j = l.high in
    let m = above x n a in
    let v = 100 * (x - 48) + 10 * (y - 48) + (z - 48) in
    let e : 48 + v / 100 ≡ x = omega arith in
    let q : v / 10 ≡ 10 * (x - 48) + (y - 48) = omega arith in
    let f : 48 + v / 10 % 10 ≡ y = rw q (omega arith) in
    let g : 48 + v % 10 ≡ z = omega arith in
    rw (le-ltb v 10 (omega arith), le-ltb v 100 (omega arith), e, f, g)

-- the comma, the end and the digits are right, or nothing is read
record Right (c e : ℕ) (digits : Bool) (o : Option Event) (v : Event) : Type 0 where
  comma : c ≡ 44
  end : e ≡ 0x0A
  all : digits ≡ true
  value : o ≡ some v

is_right : (c e : ℕ) (digits : Bool) (o : Option Event) (v : Event)
    → (if right c e digits then o else none) ≡ some v → Right c e digits o v
unfolding right
is_right c e digits o v h = go (eqb c 44) refl (eqb e 0x0A) refl digits refl h
  where
    go : (a : Bool) → eqb c 44 ≡ a → (b : Bool) → eqb e 0x0A ≡ b → (d : Bool)
        → digits ≡ d → (if a && (b && d) then o else none) ≡ some v → Right c e digits o v
    go true p true q true r h = record { comma = eqb-true c 44 p; end = eqb-true e 0x0A q; all = r; value = h }
    go true p true q false r h = impossible (cc)
    go true p false q d r h = impossible (cc)
    go false p b q d r h = impossible (cc)

nothing : {A : Type 0} {e : Event} → none ≡ some e → A
nothing h = impossible (cc)

parse_spells : (l : List ℕ) (v : Event) → parse l ≡ some v → Spelled l v
unfolding parse
parse_spells [] v h = nothing h
parse_spells (k ∷ []) v h = nothing h
parse_spells (k ∷ c ∷ []) v h = nothing h
parse_spells (k ∷ c ∷ x ∷ []) v h = nothing h
parse_spells (k ∷ c ∷ x ∷ e ∷ []) v h =
    let r = is_right c e (is_digit x) (event_by k (x - 48)) v h in
    rw (r.comma, r.end) (spelled k (x - 48) (x ∷ []) (decimal_1 x (digit x r.all)) v r.value)
parse_spells (k ∷ c ∷ x ∷ y ∷ e ∷ []) v h =
    let n = 10 * (x - 48) + (y - 48) in
    let r = is_right c e (not (eqb x 48) && (is_digit x && is_digit y)) (event_by k n) v h in
    let a = and_left (not (eqb x 48)) (is_digit x && is_digit y) r.all in
    let b = and_right (not (eqb x 48)) (is_digit x && is_digit y) r.all in
    rw (r.comma, r.end)
    (spelled k n (x ∷ y ∷ []) (decimal_2 x y (not_zero x a) (digit x (and_left (is_digit x) (is_digit y) b))
    (digit y (and_right (is_digit x) (is_digit y) b))) v r.value)
parse_spells (k ∷ c ∷ x ∷ y ∷ z ∷ e ∷ []) v h =
    let n = 100 * (x - 48) + 10 * (y - 48) + (z - 48) in
    let r = is_right c e (not (eqb x 48) && (is_digit x && (is_digit y && is_digit z))) (event_by k n) v h in
    let a = and_left (not (eqb x 48)) (is_digit x && (is_digit y && is_digit z)) r.all in
    let b = and_right (not (eqb x 48)) (is_digit x && (is_digit y && is_digit z)) r.all in
    let d = and_right (is_digit x) (is_digit y && is_digit z) b in
    rw (r.comma, r.end)
    (spelled k n (x ∷ y ∷ z ∷ [])
    (decimal_3 x y z (not_zero x a) (digit x (and_left (is_digit x) (is_digit y && is_digit z) b))
    (digit y (and_left (is_digit y) (is_digit z) d)) (digit z (and_right (is_digit y) (is_digit z) d)))
    v r.value)
parse_spells (k ∷ c ∷ x ∷ y ∷ z ∷ e ∷ f ∷ l) v h = nothing h

-- ---- among all events

every_append : {A : Type 0} (p : A → Bool) (l m : List A) → every p (l ++ m) ≡ every p l && every p m
every_append p [] m = refl
every_append p (x ∷ l) m = go (p x) (every_append p l m)
  where
    go : (b : Bool) → every p (l ++ m) ≡ every p l && every p m → b && every p (l ++ m) ≡ (b && every p l) && every p m
    go true ih = ih
    go false ih = refl

every_up_to : {A : Type 0} (p : A → Bool) (f : ℕ → A) (n i : ℕ) → every p (up_to f n) ≡ true → i < n → p (f i) ≡ true
unfolding up_to
every_up_to p f zero i h k = absurd (omega arith)
every_up_to p f (suc n) i h k =
    let s : every p (up_to f n) && every p (f n ∷ []) ≡ true = sym (every_append p (up_to f n) (f n ∷ [])) ∙ h in
    go (eqb i n) refl s (λ j. every_up_to p f n i (and_left (every p (up_to f n)) (every p (f n ∷ [])) s) j)
  where
    go : (b : Bool) → eqb i n ≡ b → every p (up_to f n) && (p (f n) && true) ≡ true
        → (i < n → p (f i) ≡ true) → p (f i) ≡ true
    go true e s ih = ap (λ (j : ℕ). p (f j)) (eqb-true i n e)
        ∙ and_left (p (f n)) true (and_right (every p (up_to f n)) (p (f n) && true) s)
    go false e s ih = let d = eqb-false i n e in ih (omega arith)

every_at : (p : Event → Bool) → every p loggable ≡ true → (e : Event) → Loggable e → p e ≡ true
unfolding loggable
every_at p h (Byte b) k = every_up_to p Byte 256 b (and_left (every p (up_to Byte 256))
    (every p (up_to Report 64)) (sym (every_append p (up_to Byte 256) (up_to Report 64)) ∙ h)) k
every_at p h (Report g) k = every_up_to p Report 64 g (and_right (every p (up_to Byte 256))
    (every p (up_to Report 64)) (sym (every_append p (up_to Byte 256) (up_to Report 64)) ∙ h)) k

module _ {A : Type 0} (p : A → Bool) where
  first_none : (l : List A) → first_of p l ≡ none → every (λ x. not (p x)) l ≡ true
  unfolding first_of
  first_none [] h = refl
  first_none (x ∷ l) h = go (p x) h (λ k. first_none l k)
    where
      go : (b : Bool) → (if b then some x else first_of p l) ≡ none
          → (first_of p l ≡ none → every (λ x. not (p x)) l ≡ true) → not b && every (λ x. not (p x)) l ≡ true
      go true h ih = impossible (cc)
      go false h ih = ih h

  -- the first that passes passes, and whatever all pass
  first_passes : (q : A → Bool) (l : List A) (y : A)
      → first_of p l ≡ some y → every q l ≡ true → (p y ≡ true) × (q y ≡ true)
  unfolding first_of
  first_passes q [] y h k = impossible (cc)
  first_passes q (x ∷ l) y h k = go (p x) refl h (λ s. first_passes q l y s (and_right (q x) (every q l) k))
    where
      go : (b : Bool) → p x ≡ b → (if b then some x else first_of p l) ≡ some y
          → (first_of p l ≡ some y → (p y ≡ true) × (q y ≡ true)) → (p y ≡ true) × (q y ≡ true)
      go true e h ih = let s : x ≡ y = cc in rw (← s) (e, and_left (q x) (every q l) k)
      go false e h ih = ih h

-- a line whose event is e is e's line, and e is read from it
event_line : (l : List ℕ) (e : Event) → event_of l ≡ some e → (l ≡ line_of e) × (parse l ≡ some e)
unfolding event_of
event_line l e h =
    let a = first_passes (λ x. same l (line_of x)) is_read loggable e h all_read in
    let b = same_true l (line_of e) a.0 in
    (b, ap parse b ∙ is_event_lem e (parse (line_of e)) a.1)

pub line_of_lem : (l : List ℕ) (e : Event) → event_of l ≡ some e → l ≡ line_of e
line_of_lem l e h = (event_line l e h).0

-- it is one of those that a log may have
is_loggable : Event → Bool
is_loggable (Byte b) = ltb b 256
is_loggable (Report g) = ltb g 64

all_loggable : every is_loggable loggable ≡ true
unfolding loggable up_to is_loggable
all_loggable = refl

pub event_loggable : (l : List ℕ) (e : Event) → event_of l ≡ some e → Loggable e
unfolding event_of is_loggable
event_loggable l e h = inside e (first_passes (λ x. same l (line_of x)) is_loggable loggable e h all_loggable).1
  where
    inside : (e : Event) → is_loggable e ≡ true → Loggable e
    inside (Byte b) k = ltb-true b 256 k
    inside (Report g) k = ltb-true g 64 k

no_event : (l : List ℕ) (e : Event) → event_of l ≡ none → Spelled l e → ⊥
unfolding event_of
no_event l e h s =
    let a = every_at (λ x. not (same l (line_of x))) (first_none (λ x. same l (line_of x)) loggable h) e s.inside in
    let b : same l (line_of e) ≡ true = rw (← s.line) (same_refl l) in
    let z : ◌≡◌ {A = Bool} (not true) true = sym (ap not b) ∙ a in
    impossible (cc)

-- reading a line finds its event
pub event_parse : (l : List ℕ) → event_of l ≡ parse l
event_parse l = go (event_of l) refl (parse l) refl
  where
    go : (a : Option Event) → event_of l ≡ a → (b : Option Event) → parse l ≡ b → a ≡ b
    go (some e) p b q = sym (event_line l e p).1 ∙ q
    go none p (some e) q = absurd (no_event l e p (parse_spells l e q))
    go none p none q = refl

-- every loggable event is the event of its line
pub line_event : (e : Event) → Loggable e → event_of (line_of e) ≡ some e
line_event e h = event_parse (line_of e) ∙ is_event_lem e (parse (line_of e)) (every_at is_read all_read e h)

-- ---- long lines, and lines without an end

-- seven bytes tell
parse_seven : (l : List ℕ) → parse (take 7 l) ≡ parse l
unfolding parse
parse_seven [] = refl
parse_seven (a ∷ []) = refl
parse_seven (a ∷ b ∷ []) = refl
parse_seven (a ∷ b ∷ c ∷ []) = refl
parse_seven (a ∷ b ∷ c ∷ d ∷ []) = refl
parse_seven (a ∷ b ∷ c ∷ d ∷ e ∷ []) = refl
parse_seven (a ∷ b ∷ c ∷ d ∷ e ∷ f ∷ []) = refl
parse_seven (a ∷ b ∷ c ∷ d ∷ e ∷ f ∷ g ∷ l) = refl

pub event_seven : (l : List ℕ) → event_of (take 7 l) ≡ event_of l
event_seven l = event_parse (take 7 l) ∙ parse_seven l ∙ sym (event_parse l)

-- whether a text has an end
abbrev pub has_end : List ℕ → Bool
has_end [] = false
has_end (x ∷ l) = eqb x 0x0A || has_end l

end_last : (l : List ℕ) → has_end (l ++ (0x0A ∷ [])) ≡ true
end_last [] = refl
end_last (x ∷ l) = go (eqb x 0x0A) (end_last l)
  where
    go : (b : Bool) → has_end (l ++ (0x0A ∷ [])) ≡ true → b || has_end (l ++ (0x0A ∷ [])) ≡ true
    go true ih = refl
    go false ih = ih

line_ends_lem : (e : Event) → has_end (line_of e) ≡ true
unfolding line_of
line_ends_lem (Byte b) = end_last (98 ∷ 44 ∷ decimal b)
line_ends_lem (Report g) = end_last (101 ∷ 44 ∷ decimal g)

-- a line without an end is of another form
pub event_unended : (l : List ℕ) → has_end l ≡ false → event_of l ≡ none
event_unended l h = go (event_of l) refl
  where
    go : (o : Option Event) → event_of l ≡ o → o ≡ none
    go none e = refl
    go (some v) e =
        let z : ◌≡◌ {A = Bool} true false = sym (line_ends_lem v) ∙ ap has_end (sym (line_of_lem l v e)) ∙ h in
        impossible (cc)

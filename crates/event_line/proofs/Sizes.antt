-- How the code reads a line: by its comma, its end and what stands between them.
-- Assumes nothing.
use Rattle.std.specs.Prelude.{if◌then◌else◌}
use Rattle.std.specs.Prelude.{slice_range}
use mathlib.Core.Path.{◌≡◌, refl, sym, ap, ◌∙◌}
use mathlib.Core.Bool.{Bool, true, false, ◌&&◌, not}
use mathlib.Core.List.{List, [], ◌∷◌}
use mathlib.Core.Option.{Option, none}
use Prim.Native.Nat.{ℕ, ◌+◌, ◌-◌, ◌*◌, ◌≤◌, ◌<◌}
use native.Mathlib.Omega.{arith}
use borrow.Author.Tests.{eq-eqb, eqb-true}
use Rattle.loops.proofs.Tests.{and_left, and_right}
use lib.Dec.{eqb}
use lib.ListN.{length, take, drop, get_or, length-take}
use mir.Val.{Val}
use denote.Laws.{Is}
use Rattle.events.specs.declared.Event.{Event}
use Rattle.event_line.specs.declared.Line.{Line}
use Rattle.event_line.specs.contracts.Line as T
use Rattle.event_line.specs.Log.{event_of, text_of}
use Rattle.event_line.specs.Parse.{is_digit, are_digits, number, event_by, right, parse}
use Rattle.event_line.proofs.Lines.{event_parse}

abbrev pub between : List ℕ → List ℕ
between l = take (length l - 1 - 2) (drop 2 l)

never : (c e : ℕ) (o : Option Event) → none ≡ (if right c e false then o else none)
unfolding right
never c e o = go (eqb c 44) (eqb e 10)
  where
    go : (a b : Bool) → none ≡ (if a && (b && false) then o else none)
    go true true = refl
    go true false = refl
    go false b = refl

parse_form : (l : List ℕ) → 3 ≤ length l
    → parse l ≡ (if right (get_or l 1 0) (get_or l (length l - 1) 0) (are_digits (between l))
    then event_by (get_or l 0 0) (number (between l)) else none)
unfolding parse
parse_form [] h = absurd (omega arith)
parse_form (k ∷ []) h = absurd (omega arith)
parse_form (k ∷ c ∷ []) h = absurd (omega arith)
parse_form (k ∷ c ∷ e ∷ []) h = never c e (event_by k 0)
parse_form (k ∷ c ∷ x ∷ e ∷ []) h =
    let n : 10 * 0 + (x - 48) ≡ x - 48 = omega arith in
    ap (λ (v : ℕ). if right c e (is_digit x) then event_by k v else none) (sym n)
parse_form (k ∷ c ∷ x ∷ y ∷ e ∷ []) h =
    let n : 10 * (x - 48) + (y - 48) ≡ 10 * (10 * 0 + (x - 48)) + (y - 48) = omega arith in
    ap (λ (v : ℕ). if right c e (not (eqb x 48) && (is_digit x && is_digit y)) then event_by k v else none) n
parse_form (k ∷ c ∷ x ∷ y ∷ z ∷ e ∷ []) h =
    let n : 100 * (x - 48) + 10 * (y - 48) + (z - 48) ≡ 10 * (10 * (10 * 0 + (x - 48)) + (y - 48)) + (z - 48) =
    omega arith in
    ap (λ (v : ℕ). if right c e (not (eqb x 48) && (is_digit x && (is_digit y && is_digit z))) then event_by k v else none) n
parse_form (k ∷ c ∷ x ∷ y ∷ z ∷ e ∷ f ∷ l) h =
    rw (many (between (k ∷ c ∷ x ∷ y ∷ z ∷ e ∷ f ∷ l)) (rw length-take (omega arith)))
    (never c (get_or (k ∷ c ∷ x ∷ y ∷ z ∷ e ∷ f ∷ l) (length (k ∷ c ∷ x ∷ y ∷ z ∷ e ∷ f ∷ l) - 1) 0)
    (event_by k (number (between (k ∷ c ∷ x ∷ y ∷ z ∷ e ∷ f ∷ l)))))
  where
    many : (l : List ℕ) → 4 ≤ length l → are_digits l ≡ false
    many [] h = refl
    many (a ∷ []) h = absurd (omega arith)
    many (a ∷ b ∷ []) h = absurd (omega arith)
    many (a ∷ b ∷ c ∷ []) h = absurd (omega arith)
    many (a ∷ b ∷ c ∷ d ∷ l) h = refl

pub bytes_7 : (l : Line) {vs : List Val} → Is T.the_row l vs → length l.bytes ≡ 7
bytes_7 l g = g.1.1.1.0.1.0.1

-- what the code reads is the text of the line
pub text_now : (l : Line) (s : List ℕ) (n : ℕ) → s ≡ slice_range l.bytes 0 n → n ≡ l.count → s ≡ text_of l
text_now l s n e k = let z : l.count - 0 ≡ l.count = omega arith in e ∙ rw (k, z) refl

pub said_short : (l s : List ℕ) → s ≡ l → length s < 3 → event_of l ≡ none
unfolding parse
said_short l s q h = event_parse l ∙ shut l (rw q at h)
  where
    shut : (l : List ℕ) → length l < 3 → parse l ≡ none
    shut [] h = refl
    shut (a ∷ []) h = refl
    shut (a ∷ b ∷ []) h = refl
    shut (a ∷ b ∷ c ∷ l) h = absurd (omega arith)

module _ (l s : List ℕ) (q : s ≡ l) (h : 3 ≤ length s) where
  said_form : event_of l ≡ (if right (get_or s 1 0) (get_or s (length s - 1) 0) (are_digits (between s))
      then event_by (get_or s 0 0) (number (between s)) else none)
  said_form = event_parse l ∙ ap parse (sym q) ∙ parse_form s h

  pub said : get_or s 1 0 ≡ 44 → get_or s (length s - 1) 0 ≡ 10 → are_digits (between s) ≡ true
      → event_of l ≡ event_by (get_or s 0 0) (number (between s))
  unfolding right
  said c e d = said_form ∙ rw (eq-eqb _ _ c, eq-eqb _ _ e, d)

  pub said_none : (get_or s 1 0 ≡ 44 → get_or s (length s - 1) 0 ≡ 10 → are_digits (between s) ≡ true → ⊥)
      → event_of l ≡ none
  unfolding right
  said_none n = said_form ∙ go (right (get_or s 1 0) (get_or s (length s - 1) 0) (are_digits (between s))) refl
    where
      go : (b : Bool) → right (get_or s 1 0) (get_or s (length s - 1) 0) (are_digits (between s)) ≡ b
          → (if b then event_by (get_or s 0 0) (number (between s)) else none) ≡ none
      go true e =
          let r = and_right (eqb (get_or s 1 0) 44) (eqb (get_or s (length s - 1) 0) 10 && are_digits (between s)) e in
          absurd (n (eqb-true _ _ (and_left (eqb (get_or s 1 0) 44) (eqb (get_or s (length s - 1) 0) 10 && are_digits (between s)) e))
          (eqb-true _ _ (and_left (eqb (get_or s (length s - 1) 0) 10) (are_digits (between s)) r))
          (and_right (eqb (get_or s (length s - 1) 0) 10) (are_digits (between s)) r))
      go false e = refl

-- more bytes than a line holds
pub said_long : (l : List ℕ) (n : ℕ) → length l ≡ 7 → 7 < n → event_of (take n l) ≡ none
unfolding parse
said_long l n size h = let m = length-take n l in event_parse (take n l) ∙ shut (take n l) (omega arith)
  where
    shut : (l : List ℕ) → length l ≡ 7 → parse l ≡ none
    shut [] h = absurd (omega arith)
    shut (a ∷ []) h = refl
    shut (a ∷ b ∷ []) h = refl
    shut (a ∷ b ∷ c ∷ []) h = refl
    shut (a ∷ b ∷ c ∷ d ∷ []) h = absurd (omega arith)
    shut (a ∷ b ∷ c ∷ d ∷ e ∷ []) h = absurd (omega arith)
    shut (a ∷ b ∷ c ∷ d ∷ e ∷ f ∷ []) h = absurd (omega arith)
    shut (a ∷ b ∷ c ∷ d ∷ e ∷ f ∷ g ∷ l) h = refl

-- The parser holds 37 bytes and counts no further, whatever comes: of a SysEx of any length it keeps the first 37 data
-- bytes. An endless SysEx is neither stored nor overflows, and one that fills the parser is too long for every message
-- that counts.
-- Assumes nothing.
use Rattle.std.specs.Prelude.{if◌then◌else◌}
use mathlib.Core.Path.{◌≡◌, refl, sym, ap, ◌∙◌}
use mathlib.Core.Bool.{Bool, true, false}
use mathlib.Core.List.{List, [], ◌∷◌, ◌++◌, append_assoc, append-nil}
use Prim.Native.Nat.{ℕ, zero, suc, ◌+◌, ◌<◌, ◌≤◌}
use native.Mathlib.Numerals.{add-one}
use native.Mathlib.Omega.{arith}
use borrow.Author.Tests.{ltb-true, ltb-false, le-ltb, eqb-true}
use lib.Dec.{leb, ltb}
use lib.ListN.{length, take, set, length-append, length-set}
use lib.Seq.{take_all, take-suc-set, take-append-le, length-take-le}
use Rattle.splitter.specs.Split.{begun, stored, in_sys_ex, body, at_last}
use Rattle.splitter.specs.Split.{completed, data_byte, opened, status_byte, split}
use Rattle.splitter.specs.declared.Completed.TheVariants.{Nothing}
use Rattle.splitter.specs.declared.Parser.{Parser}
use Rattle.splitter.specs.declared.Split.{Split}

pub record Bounded (p : Parser) : Type 0 where
  pub counted : p.count ≤ 37
  pub held : length p.bytes ≡ 37

pub bounded_begun : (s : ℕ) → Bounded (begun s)
unfolding begun
bounded_begun s = record { counted = omega arith; held = refl }

abbrev one_more : Parser → ℕ → Parser
one_more p b = record { status = p.status; count = p.count + 1; bytes = set p.bytes p.count b }

-- a byte is stored while there is room
by_room : (Q : Parser → Type 0) (p : Parser) (b : ℕ)
    → (p.count < 37 → Q (one_more p b)) → (37 ≤ p.count → Q p) → Q (stored p b)
unfolding stored
by_room Q p b room full = go (ltb p.count 37) refl
  where
    go : (t : Bool) → ltb p.count 37 ≡ t → Q (if t then one_more p b else p)
    go true e = room (ltb-true p.count 37 e)
    go false e = full (ltb-false p.count 37 e)

pub bounded_stored : (p : Parser) (b : ℕ) → Bounded p → Bounded (stored p b)
bounded_stored p b h =
    by_room Bounded p b
    (λ k. record { counted = omega arith; held = length-set p.bytes p.count b ∙ h.held }) (λ k. h)

either : {A : Type 0} (Q : A → Type 0) (t : Bool) {x y : A} → Q x → Q y → Q (if t then x else y)
either Q true p q = p
either Q false p q = q

-- after any byte the parser is the one before, that with the byte stored, or one with no data byte yet: what holds of
-- these holds after every byte
pub after-split : (Q : Parser → Type 0) (p : Parser) (b : ℕ) → Q p
    → Q (stored p b) → ((s : ℕ) → Q (begun s)) → Q (split p b).parser
unfolding split data_byte completed status_byte opened
after-split Q p b same more none =
    let R : Split → Type 0 = λ s. Q s.parser in
    let s = p.status in
    either R (ltb b 0x80)
    (either R (ltb s 0x80) same (either R (at_last p) (either R (leb 0xF0 s) (none 0) (none s)) more))
    (either R (leb 0xF8 b) same (none (if ltb b 0xF4 then b else 0)))

pub bounded_split : (p : Parser) (b : ℕ) → Bounded p → Bounded (split p b).parser
bounded_split p b h = after-split Bounded p b h (bounded_stored p b h) bounded_begun

body-length : (p : Parser) → Bounded p → length (body p) ≡ p.count
body-length p h = length-take-le p.count p.bytes (omega (arith, h.counted, h.held))

-- what a data byte adds to an open SysEx
pub body-stored : (p : Parser) (b : ℕ) → Bounded p → body (stored p b) ≡ take 37 (body p ++ (b ∷ []))
body-stored p b h =
    let n = body-length p h in
    let l = h.held in
    let c = h.counted in
    by_room (λ q. body q ≡ take 37 (body p ++ (b ∷ []))) p b
    (λ k. rw (add-one p.count) (take-suc-set p.bytes p.count b (omega arith)
    ∙ sym (take_all 37 (body p ++ (b ∷ [])) (simp length-append (omega arith)))))
    (λ k. sym (take-append-le 37 (body p) (b ∷ []) (omega arith) ∙ take_all 37 (body p) (omega arith)))

-- a data byte in an open SysEx is stored, and the SysEx stays open
pub split_open : (p : Parser) (b : ℕ) → in_sys_ex p ≡ true → ltb b 0x80 ≡ true
    → split p b ≡ record { parser = stored p b; completed = Nothing }
unfolding split data_byte
split_open p b o d =
    let s : p.status ≡ 0xF0 = eqb-true p.status 0xF0 o in
    rw (d, le-ltb p.status 0x80 (omega arith), o)

pub body-split : (p : Parser) (b : ℕ) → Bounded p → in_sys_ex p ≡ true
    → ltb b 0x80 ≡ true → body (split p b).parser ≡ take 37 (body p ++ (b ∷ []))
body-split p b h o d = ap (λ (s : Split). body s.parser) (split_open p b o d) ∙ body-stored p b h

pub stays_open : (p : Parser) (b : ℕ) → in_sys_ex p ≡ true → in_sys_ex (stored p b) ≡ true
stays_open p b o = by_room (λ q. in_sys_ex q ≡ true) p b (λ k. o) (λ k. o)

-- the parser after a list of bytes
unfoldable pub after : Parser → List ℕ → Parser
after p [] = p
after p (b ∷ l) = after (split p b).parser l

pub data DataBytes : List ℕ → Type 0 where
  none : DataBytes []
  more : {b : ℕ} {l : List ℕ} → ltb b 0x80 ≡ true → DataBytes l → DataBytes (b ∷ l)

take_front : (n : ℕ) (xs ys : List ℕ) → take n (take n xs ++ ys) ≡ take n (xs ++ ys)
take_front zero xs ys = refl
take_front (suc n) [] ys = refl
take_front (suc n) (x ∷ xs) ys = ap (λ (l : List ℕ). x ∷ l) (take_front n xs ys)

-- an open SysEx after any number of data bytes
pub body-after : (p : Parser) (l : List ℕ) → Bounded p → in_sys_ex p ≡ true
    → DataBytes l → body (after p l) ≡ take 37 (body p ++ l)
unfolding after
body-after p [] h o none =
    rw (append-nil (body p)) (sym (take_all 37 (body p) (omega (arith, body-length p h, h.counted))))
body-after p (b ∷ l) h o (more d ds) =
    ap (λ (s : Split). body (after s.parser l)) (split_open p b o d)
    ∙ body-after (stored p b) l (bounded_stored p b h) (stays_open p b o) ds
    ∙ ap (λ (m : List ℕ). take 37 (m ++ l)) (body-stored p b h)
    ∙ take_front 37 (body p ++ (b ∷ [])) l
    ∙ ap (take 37) (append_assoc (body p) (b ∷ []) l)

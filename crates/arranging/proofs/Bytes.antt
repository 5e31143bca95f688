-- What the loop over the message's bytes cites: its length and each byte by its place; and a line by what the code
-- reads of it.
-- Assumes nothing.
use Rattle.std.specs.Prelude.{Some, None}
use mathlib.Core.Path.{◌≡◌, refl, sym, ap, ◌∙◌}
use mathlib.Core.Bool.{Bool, true, false}
use mathlib.Core.List.{List, [], ◌∷◌, ◌++◌}
use mathlib.Core.Option.{Option, some, none}
use Prim.Native.Nat.{ℕ, zero, suc, ◌+◌, ◌-◌, ◌*◌, ◌%◌, ◌<◌}
use native.Mathlib.Omega.{arith}
use borrow.Author.Tests.{eqb-true, eqb-false}
use lib.Dec.{eqb}
use lib.ListN.{length, get_or, length-append, get_or-append}
use lib.Seq.{get_or-append-add, get_or_at}
use Rattle.loops.proofs.Tests.{impossible}
use Rattle.table.specs.declared.Entry.{Entry}
use Rattle.events.specs.declared.Event.{Event}
use Rattle.event_line.specs.Log.{meaning_of}
use Rattle.arranging.specs.Arranging.{listing, pair_bytes, mip_message}

-- ---- how many

pub length_bytes : (l : List Entry) → length (pair_bytes l) ≡ 2 * length l
unfolding pair_bytes
length_bytes [] = refl
length_bytes (e ∷ l) = let k = length_bytes l in omega arith

pub length-listing : (l vs : List ℕ) → length l ≡ length vs → length (listing l vs) ≡ length l
length-listing [] vs h = refl
length-listing (c ∷ l) [] h = absurd (omega arith)
length-listing (c ∷ l) (v ∷ vs) h = ap suc (length-listing l vs (omega arith))

-- ---- each by its place

pub odd : (n : ℕ) → (n % 2 ≡ 0 → ⊥) → n % 2 ≡ 1
odd n h = go (eqb (n % 2) 0) refl
  where
    go : (b : Bool) → eqb (n % 2) 0 ≡ b → n % 2 ≡ 1
    go true e = absurd (h (eqb-true (n % 2) 0 e))
    go false e = let k = eqb-false (n % 2) 0 e in omega arith

pair_even : (l vs : List ℕ) (k : ℕ) → length l ≡ length vs → k < length l
    → get_or (pair_bytes (listing l vs)) (2 * k) 0 ≡ get_or l k 0 - 1
unfolding pair_bytes
pair_even [] vs k e h = absurd (omega arith)
pair_even (c ∷ l) [] k e h = absurd (omega arith)
pair_even (c ∷ l) (v ∷ vs) zero e h = refl
pair_even (c ∷ l) (v ∷ vs) (suc k) e h =
    let q : 2 * suc k ≡ suc (suc (2 * k)) = omega arith in
    ap (λ (j : ℕ). get_or (pair_bytes (listing (c ∷ l) (v ∷ vs))) j 0) q ∙ pair_even l vs k (omega arith) (omega arith)

pair_odd : (l vs : List ℕ) (k : ℕ) → length l ≡ length vs → k < length l
    → get_or (pair_bytes (listing l vs)) (2 * k + 1) 0 ≡ get_or vs k 0
unfolding pair_bytes
pair_odd [] vs k e h = absurd (omega arith)
pair_odd (c ∷ l) [] k e h = absurd (omega arith)
pair_odd (c ∷ l) (v ∷ vs) zero e h = refl
pair_odd (c ∷ l) (v ∷ vs) (suc k) e h =
    let q : 2 * suc k + 1 ≡ suc (suc (2 * k + 1)) = omega arith in
    ap (λ (j : ℕ). get_or (pair_bytes (listing (c ∷ l) (v ∷ vs))) j 0) q ∙ pair_odd l vs k (omega arith) (omega arith)

abbrev pub head_bytes : List ℕ
head_bytes = 0xF0 ∷ 0x7F ∷ 0x7F ∷ 0x0B ∷ 0x01 ∷ []

module _ (order most : List ℕ) (n : length order ≡ 16) (m : length most ≡ 16) where
  size : length (pair_bytes (listing order most)) ≡ 32
  size =
      let a = length_bytes (listing order most) in
      let b = length-listing order most (n ∙ sym m) in
      omega arith

  pub message-length : length (mip_message (listing order most)) ≡ 38
  unfolding mip_message
  message-length =
      let a = length-append (pair_bytes (listing order most)) (0xF7 ∷ []) in
      let b = size in
      omega arith

  pub byte_head : (i : ℕ) → i < 5 → get_or head_bytes i 0 ≡ get_or (mip_message (listing order most)) i 0
  unfolding mip_message
  byte_head i h = sym (get_or-append head_bytes (pair_bytes (listing order most) ++ (0xF7 ∷ [])) 0 i h)

  pub byte_last : (i : ℕ) → i ≡ 37 → 0xF7 ≡ get_or (mip_message (listing order most)) i 0
  unfolding mip_message
  byte_last i h = rw h (sym (get_or_at (pair_bytes (listing order most)) 0xF7 [] 0 32 size))

  -- byte j behind the head
  behind : (i j : ℕ) → i ≡ 5 + j → j < 32
      → get_or (mip_message (listing order most)) i 0 ≡ get_or (pair_bytes (listing order most)) j 0
  unfolding mip_message
  behind i j e h =
      let s = size in
      ap (λ (x : ℕ). get_or (mip_message (listing order most)) x 0) e
      ∙ get_or-append-add head_bytes (pair_bytes (listing order most) ++ (0xF7 ∷ [])) j 0
      ∙ get_or-append (pair_bytes (listing order most)) (0xF7 ∷ []) 0 j (omega arith)

  pub byte_channel : (i k : ℕ) → i ≡ 5 + 2 * k → k < 16
      → get_or order k 0 - 1 ≡ get_or (mip_message (listing order most)) i 0
  byte_channel i k e h = sym (behind i (2 * k) e (omega arith) ∙ pair_even order most k (n ∙ sym m) (omega arith))

  pub byte_value : (i k : ℕ) → i ≡ 5 + (2 * k + 1) → k < 16
      → get_or most k 0 ≡ get_or (mip_message (listing order most)) i 0
  byte_value i k e h = sym (behind i (2 * k + 1) e (omega arith) ∙ pair_odd order most k (n ∙ sym m) (omega arith))

-- ---- a line by what the code reads

pub said_event : (o : Option Event) (e : Event) → Some e ≡ meaning_of o → o ≡ some e
said_event none e h = impossible (cc)
said_event (some f) e h = let q : f ≡ e = cc in rw q

pub said_nothing : (o : Option Event) → None ≡ meaning_of o → o ≡ none
said_nothing none h = refl
said_nothing (some f) h = impossible (cc)

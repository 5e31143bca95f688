-- A line of the page from its fields, and the page from its lines: each line is put where the ones before it end.
-- Assumes nothing.
use Rattle.std.specs.Prelude.{Option, Some, None, Ok, Err}
use Prim.Native.Nat.{ℕ, zero, suc, ◌+◌, ◌-◌, ◌*◌, ◌≤◌, ◌<◌}
use mathlib.Core.Path.{◌≡◌, refl, sym, ap, ◌∙◌, subst}
use mathlib.Core.List.{List, [], ◌∷◌, ◌++◌, append_assoc, append-nil}
use native.Mathlib.Numerals.{add-one}
use native.Mathlib.Omega.{arith}
use borrow.Author.Tests.{lt-ltb, le-ltb}
use lib.ListN.{length, take, drop, get_or, length-append, length-drop, take-append-drop}
use lib.Seq.{length-take-le, take_at, drop_at, drop-drop}
use Rattle.loops.specs.Passes.{up_to}
use Rattle.loops.proofs.Fill.{at-up_to}
use Rattle.refusals.specs.declared.Refusal.TheVariants as refusal
use Rattle.table.specs.declared.Entry.{Entry}
use Rattle.table.specs.Table.{entries_of}
use Rattle.shares.specs.Shares.{shares_from, lookup}
use Rattle.candidates.specs.Candidates.{busy_count}
use Rattle.device.specs.declared.Device.{Device}
use Rattle.service.specs.declared.Standing.{Standing}
use Rattle.service.specs.Page.{in_two, in_three, standing_from, place_field, value_field, share_field}
use Rattle.service.specs.Page.{mark, head, line, row, rows_to, page_of, page_text, page_after, page_answer}

-- nineteen bytes, read from the fields
abbrev joined : List ℕ → List ℕ → List ℕ → List ℕ → ℕ → List ℕ → List ℕ
joined c p v s m b =
    get_or c 0 0 ∷ get_or c 1 0 ∷ 32 ∷ get_or p 0 0 ∷ get_or p 1 0 ∷ 32 ∷ get_or v 0 0 ∷ get_or v 1 0 ∷ get_or v 2 0
    ∷ 32 ∷ get_or s 0 0 ∷ get_or s 1 0 ∷ get_or s 2 0 ∷ 32 ∷ m ∷ 32 ∷ get_or b 0 0 ∷ get_or b 1 0 ∷ 10 ∷ []

module _ (n : ℕ) (at : Option Standing) (share : Option ℕ) (busy : ℕ) where
  joined_line : joined (in_two n) (place_field at) (value_field at)
      (share_field share) (mark share) (in_two busy) ≡ line n at share busy
  unfolding line in_two in_three
  joined_line = go at share
    where
      go : (x : Option Standing) (y : Option ℕ)
          → joined (in_two n) (place_field x) (value_field x) (share_field y) (mark y) (in_two busy) ≡ line n x y busy
      go (Some s) None = refl
      go (Some s) (Some u) = refl
      go None None = refl
      go None (Some u) = refl

  pub from_fields : (c p v s b : List ℕ) (m : ℕ) → c ≡ in_two n → p ≡ place_field at → v ≡ value_field at
      → s ≡ share_field share → m ≡ mark share → b ≡ in_two busy → joined c p v s m b ≡ line n at share busy
  from_fields c p v s b m ec ep ev es em eb = rw (ec, ep, ev, es, em, eb) joined_line

pub line-length : (c : ℕ) (at : Option Standing) (s : Option ℕ) (busy : ℕ) → length (line c at s busy) ≡ 19
line-length c at s busy = ap length (sym (joined_line c at s busy))

module _ (t : List Entry) (p : ℕ) (busy : ℕ → ℕ) where
  pub row-length : (c : ℕ) → length (row t p busy c) ≡ 19
  unfolding row
  row-length c = line-length c (standing_from 1 c t) (lookup c (shares_from p 0 t)) (busy c)

  pub rows_length : (n : ℕ) → length (rows_to t p busy n) ≡ 19 * n
  unfolding rows_to
  rows_length zero = refl
  rows_length (suc n) =
      let h = rows_length n in
      let k = row-length (suc n) in
      length-append (rows_to t p busy n) (row t p busy (suc n)) ∙ omega arith

  -- one line more, at the code's n + 1
  next_row : (n : ℕ) → rows_to t p busy n ++ row t p busy (n + 1) ≡ rows_to t p busy (n + 1)
  unfolding rows_to
  next_row n = rw (add-one n) refl

  -- the page with the head's place as it was, and behind it the lines of channels 1 to n
  abbrev pub Rows : List ℕ → ℕ → List ℕ → Type 0
  Rows old n page = page ≡ take 19 old ++ rows_to t p busy n ++ drop (19 * (n + 1)) old

  module _ (old : List ℕ) (room : 323 ≤ length old) where
    until : (n : ℕ) → length (take 19 old ++ rows_to t p busy n) ≡ 19 * (n + 1)
    until n =
        let h = length-take-le 19 old (omega arith) in
        let k = rows_length n in
        length-append (take 19 old) (rows_to t p busy n) ∙ omega arith

    pub first_rows : Rows old 0 old
    unfolding rows_to
    first_rows = sym (ap (λ (l : List ℕ). l ++ drop 19 old) (append-nil (take 19 old)) ∙ take-append-drop 19 old)

    pub next_rows : (n : ℕ) (page new l : List ℕ) → Rows old n page → l ≡ row t p busy (n + 1)
        → new ≡ take (19 * (n + 1)) page ++ l ++ drop (19 * (n + 1) + 19) page → Rows old (n + 1) new
    next_rows n page new l e r h =
        let k = 19 * (n + 1) in
        let before = take 19 old ++ rows_to t p busy n in
        let front : take k page ≡ before = rw e (take_at before (drop k old) k (until n)) in
        let rest : drop k page ≡ drop k old = rw e (drop_at before (drop k old) k (until n)) in
        let next : k + 19 ≡ 19 * (n + 1 + 1) = omega arith in
        let behind : drop (k + 19) page ≡ drop (19 * (n + 1 + 1)) old =
        sym (drop-drop 19 k page) ∙ ap (λ (m : List ℕ). drop 19 m) rest
        ∙ drop-drop 19 k old ∙ ap (λ (m : ℕ). drop m old) next in
        h ∙ rw (front, behind, r) (ap (λ (m : List ℕ). m ++ drop (19 * (n + 1 + 1)) old)
        (append_assoc (take 19 old) (rows_to t p busy n) (row t p busy (n + 1))
        ∙ ap (λ (m : List ℕ). take 19 old ++ m) (next_row n)))

    -- the same by the channel of the next line, one more than n
    pub next_channel : (c : ℕ) (page new l : List ℕ) → 1 ≤ c → Rows old (c - 1) page → l ≡ row t p busy c
        → new ≡ take (19 * c) page ++ l ++ drop (19 * c + 19) page → Rows old (c + 1 - 1) new
    next_channel c page new l h e r k =
        let up : c ≡ (c - 1) + 1 = omega arith in
        let back : c + 1 - 1 ≡ (c - 1) + 1 = omega arith in
        subst (λ (m : ℕ). Rows old m new) (sym back)
        (next_rows (c - 1) page new l e (r ∙ ap (row t p busy) up)
        (k ∙ ap (λ (m : ℕ). take (19 * m) page ++ l ++ drop (19 * m + 19) page) up))

    -- the page keeps its length
    pub rows_room : (n : ℕ) (page : List ℕ) → n ≤ 16 → Rows old n page → length page ≡ length old
    rows_room n page h e =
        let k = length-drop (19 * (n + 1)) old in
        let u = until n in
        rw e (length-append (take 19 old ++ rows_to t p busy n) (drop (19 * (n + 1)) old) ∙ omega arith)

-- ---- the whole buffer

pub rows_same : (t : List Entry) (p : ℕ) (f g : ℕ → ℕ) (n : ℕ)
    → ((c : ℕ) → c ≤ n → f c ≡ g c) → rows_to t p f n ≡ rows_to t p g n
unfolding rows_to row
rows_same t p f g zero h = refl
rows_same t p f g (suc n) h = rw (rows_same t p f g n (λ c k. h c (omega arith)), h (suc n) (omega arith)) refl

-- R15.1: 323 bytes, whatever the record
pub page-length : (d : Device) → length (page_text d) ≡ 323
unfolding page_text page_of head
page-length d =
    let t = entries_of d.instrument.table in
    let rows = rows_to t d.instrument.polyphony (busy_count d.instrument.generators) 16 in
    length-append head rows
    ∙ rw (rows_length t d.instrument.polyphony (busy_count d.instrument.generators) 16) refl

module _ (d : Device) (old : List ℕ) where
  -- there is no room for the page
  pub page_none : length old < 323 → (Err refusal.ShortPage ≡ page_answer old) × (old ≡ page_after d old)
  unfolding page_answer page_after
  page_none h = rw (lt-ltb (length old) 323 h) (refl, refl)

  -- the head is put, and then the sixteen lines
  pub page-whole : (mid new busy : List ℕ) → 323 ≤ length old
      → mid ≡ head ++ drop 19 old → busy ≡ up_to (busy_count d.instrument.generators) 17
      → new ≡ take 19 mid ++ rows_to (entries_of d.instrument.table) d.instrument.polyphony
      (λ c. get_or busy c 0) 16 ++ drop 323 mid
      → (Ok tt ≡ page_answer old) × (new ≡ page_after d old)
  unfolding page_answer page_after page_text page_of head
  page-whole mid new busy r m b e =
      let f = busy_count d.instrument.generators in
      let rows = rows_same (entries_of d.instrument.table) d.instrument.polyphony
      (λ c. get_or busy c 0) f 16 (λ c h. rw b (at-up_to f 0 17 c (omega arith))) in
      rw (le-ltb (length old) 323 r) (refl, e ∙ rw (rows, m, drop-drop 304 19 old) refl)

-- What one byte can do to two counts: the bytes that the parser has in hand towards a note-on, and the notes of the
-- book.
-- Assumes nothing.
use Rattle.std.specs.Prelude.{if◌then◌else◌}
use mathlib.Core.Path.{◌≡◌, refl, sym, ap}
use mathlib.Core.Bool.{Bool, true, false, not, ◌&&◌, ◌||◌}
use mathlib.Core.List.{List}
use Prim.Native.Nat.{ℕ, zero, suc, ◌+◌, ◌/◌, ◌≤◌, ◌<◌}
use native.Mathlib.Omega.{arith}
use borrow.Author.Tests.{eqb-true, ne_eqb, lt-leb}
use lib.Dec.{eqb, leb, ltb}
use Rattle.loops.specs.Cases.{bit}
use Rattle.loops.specs.Passes.{total}
use Rattle.loops.proofs.Cases.{by_both}
use Rattle.loops.proofs.Totals.{bit_le, total_le}
use Rattle.loops.proofs.Tests.{impossible}
use Rattle.splitter.specs.declared.Parser.{Parser}
use Rattle.splitter.specs.declared.Completed.{Completed}
use Rattle.splitter.specs.declared.Completed.TheVariants as completed
use Rattle.splitter.specs.declared.Split.{Split}
use Rattle.splitter.specs.Split.{body, begun, stored, in_sys_ex, one_data_byte, at_last}
use Rattle.splitter.specs.Split.{data_byte, opened, ended, status_byte, split}
use Rattle.splitter.specs.Split as splitting
use Rattle.message.specs.declared.Message.{Message}
use Rattle.message.specs.declared.Message.TheVariants.{NoteOn, NoteOff, Control, Program, Bend, Other}
use Rattle.message.specs.Message.{channel_of, decode}
use Rattle.sysex.specs.declared.Kind.{Kind}
use Rattle.sysex.specs.declared.Kind.TheVariants as kind
use Rattle.sysex.specs.SysEx.{kind_of}
use Rattle.playing.specs.declared.Answer.{Answer}
use Rattle.note_book.specs.Book.{Slot, empty, note, is_note, freed, Heard, nothing, message}
use Rattle.note_book.specs.Book.{new_table, reset, report, is_done, exclusive_heard, completed_heard}

-- ---- bytes in hand

-- 1 for a note-on status in force, 2 with its key
abbrev pub weigh : ℕ → ℕ → ℕ
weigh s n = if eqb (s / 16) 9 then if eqb n 0 then 1 else 2 else 0

abbrev pub in_hand : Parser → ℕ
in_hand p = weigh p.status p.count

weigh_same : (s m n : ℕ) → weigh s m ≤ weigh s n + 1
weigh_same s m n = go (eqb (s / 16) 9) (eqb m 0) (eqb n 0)
  where
    go : (a b c : Bool) → (if a then if b then 1 else 2 else 0) ≤ (if a then if c then 1 else 2 else 0) + 1
    go true true true = omega arith
    go true true false = omega arith
    go true false true = omega arith
    go true false false = omega arith
    go false b c = omega arith

weigh_new : (s : ℕ) → weigh s 0 ≤ 1
weigh_new s = go (eqb (s / 16) 9)
  where
    go : (a : Bool) → (if a then 1 else 0) ≤ 1
    go true = omega arith
    go false = omega arith

-- 1 for a complete message of note-on status
abbrev pub is_on : Completed → ℕ
is_on completed.Nothing = 0
is_on completed.Stray = 0
is_on completed.Cut = 0
is_on (completed.Message s a b) = bit (eqb (s / 16) 9)
is_on completed.SysEx = 0

-- a byte adds one to what is in hand, at most; what completes a note-on takes two away, and then both were there
abbrev pub Pays : Parser → Split → Type 0
Pays p s = (in_hand s.parser + (is_on s.completed + is_on s.completed) ≤ in_hand p + 1)
    × (is_on s.completed + is_on s.completed ≤ in_hand p)

pays_free : (p q : Parser) (c : Completed) → is_on c ≡ 0
    → in_hand q ≤ in_hand p + 1 → Pays p (record { parser = q; completed = c })
pays_free p q c z h = (omega arith, omega arith)

-- the parser stays, and no message is complete
pays_kept : (p : Parser) (c : Completed) → is_on c ≡ 0 → Pays p (record { parser = p; completed = c })
pays_kept p c z = (omega arith, omega arith)

pays_if : (x : Bool) (p : Parser) (u v : Split) → (x ≡ true → Pays p u)
    → (x ≡ false → Pays p v) → Pays p (if x then u else v)
pays_if true p u v f g = f refl
pays_if false p u v f g = g refl

ended_free : (s b : ℕ) → is_on (ended s b) ≡ 0
unfolding ended
ended_free s b = go (eqb s 0xF0) (eqb b 0xF7)
  where
    go : (x y : Bool) → is_on (if x then if y then completed.SysEx else completed.Cut else completed.Nothing) ≡ 0
    go true true = refl
    go true false = refl
    go false y = refl

hand_opened : (p : Parser) (b : ℕ) → in_hand (opened b) ≤ in_hand p + 1
unfolding opened begun
hand_opened p b = let h = weigh_new (if ltb b 0xF4 then b else 0) in omega arith

hand_stored : (p : Parser) (b : ℕ) → in_hand (stored p b) ≤ in_hand p + 1
unfolding stored
hand_stored p b = by_both (λ (q : Parser). in_hand q ≤ in_hand p + 1)
    (ltb p.count 37) _ _ (weigh_same p.status (p.count + 1) p.count) (omega arith)

pays_status : (p : Parser) (b : ℕ) → Pays p (status_byte p b)
unfolding status_byte
pays_status p b =
    pays_if (leb 0xF8 b) p _ _ (λ e. pays_kept p completed.Nothing refl)
    (λ e. pays_free p (opened b) (ended p.status b) (ended_free p.status b) (hand_opened p b))

-- a note-on status has two data bytes
two_bytes : (s : ℕ) → s / 16 ≡ 9 → one_data_byte s ≡ false
unfolding one_data_byte
two_bytes s h = rw (
  lt-leb 0xC0 s (omega arith),
  ne_eqb s 0xF1 (λ (q : s ≡ 0xF1). omega arith),
  ne_eqb s 0xF3 (λ (q : s ≡ 0xF3). omega arith),
)

-- the byte that completes a note-on finds its key
has_key : (p : Parser) → at_last p ≡ true → p.status / 16 ≡ 9 → eqb p.count 0 ≡ false
has_key p l h = go (in_sys_ex p) (eqb p.count 0) (rw (two_bytes p.status h) at l)
  where
    go : (x y : Bool) → not x && (false || not y) ≡ true → y ≡ false
    go true y e = impossible (cc)
    go false true e = sym e
    go false false e = refl

pays_last : (p : Parser) (b : ℕ) → at_last p ≡ true → Pays p (splitting.completed p b)
unfolding splitting.completed begun
pays_last p b l =
    pays_if (leb 0xF0 p.status) p _ _ (λ e. (omega arith, omega arith)) (λ e. go (eqb (p.status / 16) 9) refl)
  where
    go : (y : Bool) → eqb (p.status / 16) 9 ≡ y
        → ((if y then 1 else 0) + (bit y + bit y) ≤ (if y then if eqb p.count 0 then 1 else 2 else 0) + 1)
        × (bit y + bit y ≤ (if y then if eqb p.count 0 then 1 else 2 else 0))
    go true e = rw (has_key p l (eqb-true (p.status / 16) 9 e)) (omega arith, omega arith)
    go false e = (omega arith, omega arith)

pays_data : (p : Parser) (b : ℕ) → Pays p (data_byte p b)
unfolding data_byte
pays_data p b =
    pays_if (ltb p.status 0x80) p _ _ (λ e. pays_kept p completed.Stray refl)
    (λ e. pays_if (at_last p) p _ _ (λ l. pays_last p b l)
    (λ l. pays_free p (stored p b) completed.Nothing refl (hand_stored p b)))

pub pays : (p : Parser) (b : ℕ) → Pays p (split p b)
unfolding split
pays p b = pays_if (ltb b 0x80) p _ _ (λ e. pays_data p b) (λ e. pays_status p b)

-- ---- what the book hears of it

-- 1 for a note-on above 0
abbrev pub note_ons : Heard → ℕ
note_ons nothing = 0
note_ons (message (NoteOn c k)) = 1
note_ons (message (NoteOff c k)) = 0
note_ons (message (Control c n v)) = 0
note_ons (message (Program c n)) = 0
note_ons (message (Bend c msb lsb)) = 0
note_ons (message Other) = 0
note_ons (new_table t) = 0
note_ons reset = 0
note_ons (report g) = 0

-- at most n note-ons in a message
abbrev Few : ℕ → Message → Type 0
Few n m = note_ons (message m) ≤ n

on_decode : (s a b : ℕ) → note_ons (message (decode s a b)) ≤ bit (eqb (s / 16) 9)
unfolding decode
on_decode s a b =
    by_both (Few (bit (eqb (s / 16) 9))) (eqb (s / 16) 8) _ _ (omega arith)
    (go (eqb (s / 16) 9))
  where
    rest : (n : ℕ)
        → note_ons (message (if eqb (s / 16) 11 then Control (channel_of s) a b
        else if eqb (s / 16) 12 then Program (channel_of s) a
        else if eqb (s / 16) 14 then Bend (channel_of s) b a else Other)) ≤ n
    rest n = by_both (Few n) (eqb (s / 16) 11) _ _ (omega arith)
        (by_both (Few n) (eqb (s / 16) 12) _ _ (omega arith)
        (by_both (Few n) (eqb (s / 16) 14) _ _ (omega arith) (omega arith)))

    go : (y : Bool)
        → note_ons (message (if y then (if eqb b 0 then NoteOff (channel_of s) a else NoteOn (channel_of s) a)
        else if eqb (s / 16) 11 then Control (channel_of s) a b else if eqb (s / 16) 12 then Program (channel_of s) a
        else if eqb (s / 16) 14 then Bend (channel_of s) b a else Other))
        ≤ bit y
    go true = by_both (Few 1) (eqb b 0) _ _ (omega arith) (omega arith)
    go false = rest 0

on_exclusive : (l : List ℕ) (k : Kind) (x : Bool) → note_ons (if x then exclusive_heard l k else nothing) ≡ 0
on_exclusive l kind.Mip true = refl
on_exclusive l kind.SystemOn true = refl
on_exclusive l kind.Other true = refl
on_exclusive l k false = refl

pub on_heard : (id : ℕ) (p : Parser) (c : Completed) (a : Answer) → note_ons (completed_heard id p c a) ≤ is_on c
on_heard id p completed.Nothing a = omega arith
on_heard id p completed.Stray a = omega arith
on_heard id p completed.Cut a = omega arith
on_heard id p (completed.Message s x y) a = on_decode s x y
on_heard id p completed.SysEx a = let e = on_exclusive (body p) (kind_of id (body p)) (is_done a) in omega arith

-- ---- notes in the book

abbrev pub notes_in : ℕ → (ℕ → Slot) → ℕ
notes_in p n = total (λ g. bit (is_note (n g))) p

freed_le : (f : Slot → Bool) (p : Bool) (s : Slot) → bit (is_note (freed f p s)) ≤ bit (is_note s)
freed_le f p empty = omega arith
freed_le f p (note d c k) = bit_le (is_note (freed f p (note d c k)))

-- what frees notes adds none
pub in_freed : (p : ℕ) (f : Slot → Bool) (pedal : Bool) (n : ℕ → Slot)
    → notes_in p (λ g. freed f pedal (n g)) ≤ notes_in p n
in_freed p f pedal n = total_le (λ (g : ℕ). bit (is_note (freed f pedal (n g))))
    (λ (g : ℕ). bit (is_note (n g))) p (λ g. freed_le f pedal (n g))

pub total-full : (t : ℕ → Bool) (p : ℕ) → ((g : ℕ) → g < p → t g ≡ true) → total (λ g. bit (t g)) p ≡ p
unfolding total
total-full t zero f = refl
total-full t (suc p) f =
    let k = total-full t p (λ g h. f g (omega arith)) in
    let e : bit (t p) ≡ 1 = ap bit (f p (omega arith)) in
    omega arith

pub in_none : (p : ℕ) → notes_in p (λ g. empty) ≡ 0
unfolding total
in_none zero = refl
in_none (suc p) = let k = in_none p in omega arith

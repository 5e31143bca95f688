-- R9.13 of 124 to 127, for every book: whatever their value, they act as 123 with value 0. So behind one of them no key
-- of the channel is down (`none_down`), and no note of it hangs: unless the pedal keeps it, what was down has left
-- (`none_hangs`; at work in `chord_gone`). The first is computed for each of the four numbers, the others for each kind
-- of slot.
-- Assumes nothing.
use Rattle.std.specs.Prelude.{if◌then◌else◌}
use mathlib.Core.Path.{◌≡◌, refl, sym, ap, ◌∙◌}
use mathlib.Core.Bool.{Bool, true, false, ◌&&◌, not, false≢true}
use Prim.Native.Nat.{ℕ, ◌+◌, ◌≤◌}
use native.Mathlib.Omega.{arith}
use lib.Dec.{eqb}
use Rattle.message.specs.declared.Message.TheVariants.{Control}
use Rattle.other_messages.proofs.ModeMessages.{by_mode}
use Rattle.playing.specs.declared.Answer.{Answer}
use Rattle.playing.specs.declared.Answer.TheVariants.{Done}
use Rattle.note_book.specs.Book.{Book, Slot, empty, note, with_notes, fresh_book}
use Rattle.note_book.specs.Book.{is_down, is_of, is_rhythm, pedal_down, freed, keep_message}

pub keeps_as_123 : (b : Book) (c n v : ℕ) (a : Answer) → 124 ≤ n → n ≤ 127
    → keep_message b (Control c n v) a ≡ keep_message b (Control c 123 0) a
unfolding keep_message
keeps_as_123 b c n v a =
    by_mode (λ (m : ℕ). keep_message b (Control c m v) a ≡ keep_message b (Control c 123 0) a) refl refl refl refl n

-- a down note of the channel
abbrev pub is_down_on : ℕ → Slot → Bool
is_down_on c s = is_down s && is_of c s

-- freed from those, a slot has none of them: it is empty, or its note on the pedal, or of another channel
none_left : (c : ℕ) (pedal : Bool) (s : Slot) → is_down_on c (freed (is_down_on c) pedal s) ≡ false
none_left c pedal empty = refl
none_left c pedal (note true d k) = refl
none_left c pedal (note false d k) = go (eqb d c) refl pedal
  where
    go : (p : Bool) → eqb d c ≡ p → (q : Bool)
        → is_down_on c (if p then if q then note true d k else empty else note false d k) ≡ false
    go true e true = refl
    go true e false = refl
    go false e q = e

pub none_down : (b : Book) (c n v g : ℕ) (a : Answer) → 124 ≤ n → n ≤ 127
    → is_down_on c ((keep_message b (Control c n v) a).notes g) ≡ false
unfolding keep_message
none_down b c n v g a lo hi =
    ap (λ (x : Book). is_down_on c (x.notes g)) (keeps_as_123 b c n v a lo hi)
    ∙ none_left c (pedal_down b c && not (is_rhythm b c)) (b.notes g)

-- a down note of the channel leaves where no pedal keeps it
emptied : (c : ℕ) (s : Slot) → is_down_on c s ≡ true → (pedal : Bool) → pedal ≡ false
    → freed (is_down_on c) pedal s ≡ empty
emptied c empty e pedal q = absurd (false≢true e)
emptied c (note p d k) e pedal q = go (is_down_on c (note p d k)) e pedal q
  where
    go : (x : Bool) → x ≡ true → (y : Bool) → y ≡ false
        → (if x then if y then note true d k else empty else note p d k) ≡ empty
    go true f true g = absurd (false≢true (sym g))
    go true f false g = refl
    go false f y g = absurd (false≢true f)

pub none_hangs : (b : Book) (c n v g : ℕ) (a : Answer) → 124 ≤ n → n ≤ 127
    → pedal_down b c && not (is_rhythm b c) ≡ false → is_down_on c (b.notes g) ≡ true
    → (keep_message b (Control c n v) a).notes g ≡ empty
unfolding keep_message
none_hangs b c n v g a lo hi q e =
    ap (λ (x : Book). x.notes g) (keeps_as_123 b c n v a lo hi)
    ∙ emptied c (b.notes g) e (pedal_down b c && not (is_rhythm b c)) q

-- ---- a chord of channel 1 is down on four generators, its pedal up, and the keyboard sends 126

abbrev chord : Book
chord = with_notes (fresh_book 4 0) (λ g. note false 1 (60 + g))

126-from : 124 ≤ 126
126-from = omega arith

126-to : 126 ≤ 127
126-to = omega arith

pub chord_gone : (v g : ℕ) → (keep_message chord (Control 1 126 v) Done).notes g ≡ empty
chord_gone v g = none_hangs chord 1 126 v g Done 126-from 126-to refl refl

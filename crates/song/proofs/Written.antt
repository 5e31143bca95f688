-- The loop of `write_song`: at turn i the first i bytes of the song are written and played, and those after them are as
-- they were.
-- Assumes nothing.
use Rattle.std.specs.Prelude.{Ok}
use mathlib.Core.Path.{◌≡◌, refl, sym, ap, ap₂, ◌∙◌, subst}
use mathlib.Core.Bool.{false}
use mathlib.Core.List.{List, [], ◌∷◌, ◌++◌}
use Prim.Native.Nat.{ℕ, ◌+◌, ◌≤◌, ◌<◌}
use native.Mathlib.Omega.{arith}
use native.Mathlib.Numerals.{add-one}
use borrow.Author.Tests.{ltb-false}
use lib.Dec.{ltb}
use lib.ListN.{length, drop, set, length-set}
use Rattle.loops.specs.Cases.{bit}
use Rattle.loops.specs.Passes.{up_to}
use Rattle.loops.proofs.Fill.{fill_next}
use Rattle.loops.proofs.Tests.{or_left, or_right}
use Rattle.loops.proofs.Totals.{bit_le}
use Rattle.device.specs.declared.Device.{Device}
use Rattle.device.specs.declared.Output.{Output}
use Rattle.device.specs.Device.{is_wrong_p, started, byte_taken, after_bytes}
use Rattle.device.proofs.Bytes.{after_snoc}
use Rattle.song.specs.Song.{is_theft, thefts, song_byte, song, is_too_long, song_answer, song_written}
use Rattle.song.proofs.Played.{thefts_snoc}

-- P, n and the old buffer; then the buffer, the device, the thefts and the turn
pub record Turn (p n : ℕ) (old new : List ℕ) (d : Device) (t i : ℕ) : Type 0 where
  pub right : is_wrong_p p ≡ false
  pub fits : is_too_long n (length old) ≡ false
  pub few : n ≤ 65536
  pub room : n ≤ length old
  pub until : i ≤ n
  pub same : length new ≡ length old
  pub written : new ≡ song i ++ drop i old
  pub device : d ≡ after_bytes (started p 0).device (song i)
  pub counted : t ≡ thefts (started p 0).device (song i)
  pub less : t ≤ i

-- what is not too long
pub short : (n : ℕ) (old : List ℕ) → is_too_long n (length old) ≡ false → n ≤ 65536
short n old e = ltb-false 65536 n (or_left (ltb 65536 n) (ltb (length old) n) e)

pub room : (n : ℕ) (old : List ℕ) → is_too_long n (length old) ≡ false → n ≤ length old
room n old e = ltb-false (length old) n (or_right (ltb 65536 n) (ltb (length old) n) e)

pub turn_first : (p n : ℕ) (old : List ℕ) (o : Output) → is_wrong_p p ≡ false
    → is_too_long n (length old) ≡ false → o ≡ started p 0 → Turn p n old old o.device 0 0
unfolding up_to after_bytes thefts
turn_first p n old o r f e =
    record {
      right = r;
      fits = f;
      few = short n old f;
      room = room n old f;
      until = omega arith;
      same = refl;
      written = refl;
      device = ap (λ (x : Output). x.device) e;
      counted = refl;
      less = omega arith;
    }

song-next : (i : ℕ) → song (i + 1) ≡ song i ++ (song_byte i ∷ [])
unfolding up_to
song-next i = rw (add-one i)

pub turn_next : (p n : ℕ) (old new : List ℕ) (d : Device) (t i : ℕ) → Turn p n old new d t i → i < n
    → (b : ℕ) → b ≡ song_byte i → (o : Output) → o ≡ byte_taken d b → (x : ℕ) → x ≡ bit (is_theft o.answer)
    → Turn p n old (set new i b) o.device (t + x) (i + 1)
turn_next p n old new d t i k h b e o q x y =
    let r = k.room in
    let l = k.less in
    let one = bit_le (is_theft o.answer) in
    let byte : o ≡ byte_taken (after_bytes (started p 0).device (song i)) (song_byte i) =
    q ∙ ap₂ byte_taken k.device e in
    let c = k.counted in
    let s = thefts_snoc (started p 0).device (song i) (song_byte i) in
    let z : x ≡ bit (is_theft (byte_taken (after_bytes (started p 0).device (song i)) (song_byte i)).answer) =
    y ∙ ap (λ (u : Output). bit (is_theft u.answer)) byte in
    record {
      right = k.right;
      fits = k.fits;
      few = k.few;
      room = k.room;
      until = omega arith;
      same = length-set new i b ∙ k.same;
      written = fill_next song_byte 0 old new i b (omega arith) k.written e;
      device = ap (λ (u : Output). u.device) byte ∙ sym (after_snoc (started p 0).device (song i) (song_byte i))
          ∙ ap (after_bytes (started p 0).device) (sym (song-next i));
      counted = subst (λ (m : List ℕ). t + x ≡ thefts (started p 0).device m) (sym (song-next i)) (omega arith);
      less = omega arith;
    }

pub turn_last : (p n : ℕ) (old new : List ℕ) (d : Device) (t i : ℕ) → Turn p n old new d t i
    → n ≤ i → (Ok t ≡ song_answer p n old) × (new ≡ song_written p n old)
unfolding song_answer song_written
turn_last p n old new d t i k h =
    let u = k.until in
    let e : i ≡ n = omega arith in (
      rw (k.right, k.fits) (ap Ok (k.counted ∙ ap (λ (m : ℕ). thefts (started p 0).device (song m)) e)),
      rw (k.right, k.fits) (k.written ∙ ap (λ (m : ℕ). song m ++ drop m old) e),
    )

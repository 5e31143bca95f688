-- The song reaches the most thefts: its bytes are a status byte and then pairs of a key and a velocity, of which each
-- completes a note-on.
-- Assumes nothing.
use Rattle.std.specs.Prelude.{Ok}
use mathlib.Core.Path.{◌≡◌, refl, sym, ap, ap₂, ◌∙◌, subst}
use mathlib.Core.Bool.{Bool, true, false}
use mathlib.Core.List.{List, [], ◌∷◌, ◌++◌}
use Prim.Native.Nat.{ℕ, zero, suc, ◌+◌, ◌-◌, ◌/◌, ◌%◌, ◌≤◌, ◌<◌}
use native.Mathlib.Omega.{arith}
use borrow.Author.Tests.{lt-ltb, eq-eqb, ne_eqb, eqb-true, eqb-false, leb-true, leb-false}
use lib.Dec.{eqb, leb}
use Rattle.loops.specs.Cases.{bit}
use Rattle.loops.specs.Passes.{up_to}
use Rattle.splitter.specs.declared.Parser.{Parser}
use Rattle.splitter.specs.Split.{begun, stored, one_data_byte, data_byte, opened, ended, status_byte, split}
use Rattle.splitter.specs.Split as splitting
use Rattle.message.specs.declared.Message.TheVariants.{NoteOn}
use Rattle.message.specs.Message.{decode}
use Rattle.table.specs.declared.Table.{Table}
use Rattle.table.specs.Table.{start_table}
use Rattle.instrument.specs.declared.Instrument.{Instrument}
use Rattle.instrument.specs.Instrument.{fresh, with_generators, is_rhythm}
use Rattle.allocation.specs.Allocation.{note_on}
use Rattle.playing.specs.declared.Answer.TheVariants as answer
use Rattle.playing.specs.Playing.{replied, played, note_reply, play_note_on}
use Rattle.device.specs.declared.Device.{Device}
use Rattle.device.specs.declared.Output.{Output}
use Rattle.device.specs.Device.{fresh_device, heard, output_of, byte_taken, after_bytes}
use Rattle.device.proofs.Bytes.{after_snoc}
use Rattle.song.specs.Song.{is_theft, thefts, song_byte, song, song_answer}
use Rattle.song.proofs.Played.{thefts_snoc}
use Rattle.hardest.specs.Hardest.{most_thefts, polyphony_of, Reached, AnswersMost}
use Rattle.hardest.proofs.Starts.{in_range, every_start, started-fresh}
use Rattle.hardest.proofs.Line.{Lined, lined_silent, Plays, plays}

-- ---- the bytes of the song

abbrev on : Parser
on = begun 0x90

first_byte : (p id : ℕ) → byte_taken (fresh_device p id) 0x90 ≡ output_of on (replied answer.Nothing (fresh p id))
unfolding byte_taken split status_byte opened ended begun heard
first_byte p id = refl

key_byte : (i : Instrument) (k : ℕ) → k < 128
    → byte_taken (record { parser = on; instrument = i }) k ≡ output_of (stored on k) (replied answer.Nothing i)
unfolding byte_taken split data_byte one_data_byte begun heard
key_byte i k h = rw (lt-ltb k 0x80 h)

velocity_byte : (i : Instrument) (k : ℕ)
    → byte_taken (record { parser = stored on k; instrument = i }) 64 ≡ output_of on (played i (NoteOn 1 k))
unfolding byte_taken split data_byte one_data_byte begun stored splitting.completed heard decode
velocity_byte i k = refl

byte_key : (j : ℕ) → song_byte (suc (j + j)) ≡ j % 128
unfolding song_byte
byte_key j =
    let half : (suc (j + j) - 1) / 2 ≡ j = omega arith in
    rw (ne_eqb (suc (j + j)) 0 (λ (q : suc (j + j) ≡ 0). omega arith), eq-eqb (suc (j + j) % 2) 1 (omega arith), half)

byte_velocity : (j : ℕ) → song_byte (suc (suc (j + j))) ≡ 64
unfolding song_byte
byte_velocity j = rw (
  ne_eqb (suc (suc (j + j))) 0 (λ (q : suc (suc (j + j)) ≡ 0). omega arith),
  ne_eqb (suc (suc (j + j)) % 2) 1 (λ (q : suc (suc (j + j)) % 2 ≡ 1). omega arith),
)

song_none : song 0 ≡ []
unfolding up_to
song_none = refl

song-first : song 1 ≡ 0x90 ∷ []
unfolding up_to song_byte
song-first = refl

song-key : (j : ℕ) → song (suc (suc (j + j))) ≡ song (suc (j + j)) ++ (j % 128 ∷ [])
unfolding up_to
song-key j = ap (λ (b : ℕ). song (suc (j + j)) ++ (b ∷ [])) (byte_key j)

song-note : (j : ℕ) → song (suc (suc (suc (j + j)))) ≡ (song (suc (j + j)) ++ (j % 128 ∷ [])) ++ (64 ∷ [])
unfolding up_to
song-note j = ap₂ (λ (l : List ℕ) (b : ℕ). l ++ (b ∷ [])) (song-key j) (byte_velocity j)

-- ---- the device after them

-- one theft more from the note on that finds P notes
next_most : (p j : ℕ) → j - p + bit (leb p j) ≡ suc j - p
next_most p j = go (leb p j) refl
  where
    go : (b : Bool) → leb p j ≡ b → j - p + bit b ≡ suc j - p
    go true e = let h = leb-true p j e in omega arith
    go false e = let h = leb-false p j e in omega arith

module _ (p id : ℕ) (lo : 1 ≤ p) (hi : p ≤ 64) where
  abbrev fresh-one : Device
  fresh-one = fresh_device p id

  -- after j notes
  record After (j : ℕ) (l : List ℕ) : Type 0 where
    instrument : Instrument
    is : after_bytes fresh-one l ≡ record { parser = on; instrument = instrument }
    polyphony : instrument.polyphony ≡ p
    table : instrument.table ≡ start_table p
    lined : Lined p j instrument.generators
    counted : thefts fresh-one l ≡ j - p

  after_first : After 0 (0x90 ∷ [])
  unfolding after_bytes thefts fresh
  after_first =
      record {
        instrument = fresh p id;
        is = ap (λ (r : Output). r.device) (first_byte p id);
        polyphony = refl;
        table = refl;
        lined = lined_silent p hi;
        counted = ap (λ (r : Output). bit (is_theft r.answer) + 0) (first_byte p id) ∙ omega arith;
      }

  module _ (j : ℕ) (l : List ℕ) (o : After j l) where
    abbrev key : ℕ
    key = j % 128

    abbrev i : Instrument
    i = o.instrument

    abbrev with-key : List ℕ
    with-key = l ++ (key ∷ [])

    taken-key : byte_taken (after_bytes fresh-one l) key ≡ output_of (stored on key) (replied answer.Nothing i)
    taken-key = ap (λ (d : Device). byte_taken d (j % 128)) o.is ∙ key_byte i (j % 128) (omega arith)

    after-key : after_bytes fresh-one with-key ≡ record { parser = stored on key; instrument = i }
    after-key = after_snoc fresh-one l key ∙ ap (λ (r : Output). r.device) taken-key

    thefts-key : thefts fresh-one with-key ≡ j - p
    thefts-key =
        let h = thefts_snoc fresh-one l key in
        let z : bit (is_theft (byte_taken (after_bytes fresh-one l) key).answer) ≡ 0 =
        ap (λ (r : Output). bit (is_theft r.answer)) taken-key in
        let c = o.counted in
        omega arith

    law : Plays p j lo i.generators o.lined (note_on i.generators (start_table p) p false 1 key)
    law = plays p j lo i.generators o.lined

    taken-note : byte_taken (after_bytes fresh-one with-key) 64
        ≡ output_of on (note_reply i 1 key (note_on i.generators (start_table p) p false 1 key))
    unfolding played play_note_on is_rhythm
    taken-note =
        ap (λ (d : Device). byte_taken d 64) after-key
        ∙ velocity_byte i key
        ∙ ap₂ (λ (t : Table) (n : ℕ). output_of on (note_reply i 1 key (note_on i.generators t n false 1 key)))
        o.table o.polyphony

    after-note : After (suc j) (with-key ++ (64 ∷ []))
    after-note =
        let a = note_on i.generators (start_table p) p false 1 key in
        let h = thefts_snoc fresh-one with-key 64 in
        let b : bit (is_theft (byte_taken (after_bytes fresh-one with-key) 64).answer) ≡ bit (leb p j) =
        ap (λ (r : Output). bit (is_theft r.answer)) taken-note ∙ ap bit law.stolen in
        let c = thefts-key in
        let n = next_most p j in
        record {
          instrument = with_generators i a.generators;
          is = after_snoc fresh-one with-key 64 ∙ ap (λ (r : Output). r.device) taken-note;
          polyphony = o.polyphony;
          table = o.table;
          lined = subst (λ (m : ℕ). Lined p m a.generators) (omega arith) law.lined;
          counted = omega arith;
        }

  -- ---- the song

  song-notes : (j : ℕ) → After j (song (suc (j + j)))
  song-notes zero = subst (After 0) (sym song-first) after_first
  song-notes (suc j) =
      let q : suc (suc (j + j)) ≡ suc j + suc j = omega arith in
      subst (λ (n : ℕ). After (suc j) (song (suc n))) q
      (subst (After (suc j)) (sym (song-note j)) (after-note j (song (suc (j + j))) (song-notes j)))

  reaches : (n : ℕ) → thefts fresh-one (song n) ≡ most_thefts p n
  unfolding most_thefts thefts
  reaches zero = ap (thefts fresh-one) song_none ∙ omega arith
  reaches (suc n) = go (eqb (n % 2) 0) refl
    where
      go : (b : Bool) → eqb (n % 2) 0 ≡ b → thefts fresh-one (song (suc n)) ≡ most_thefts p (suc n)
      go true e =
          let z = eqb-true (n % 2) 0 e in
          let c = (song-notes (n / 2)).counted in
          let q : n / 2 + n / 2 ≡ n = omega arith in
          subst (λ (m : ℕ). thefts fresh-one (song (suc m)) ≡ most_thefts p (suc n)) q (c ∙ omega arith)
      go false e =
          let z = eqb-false (n % 2) 0 e in
          let q : suc (n / 2 + n / 2) ≡ n = omega arith in
          let c = thefts-key (n / 2) (song (suc (n / 2 + n / 2))) (song-notes (n / 2)) in
          subst (λ (m : ℕ). thefts fresh-one (song (suc m)) ≡ most_thefts p (suc n)) q
          (ap (thefts fresh-one) (song-key (n / 2)) ∙ c ∙ omega arith)

-- The song of n bytes makes the most thefts.
pub reached : Reached
unfolding fresh
reached p id n =
    every_start (λ d. thefts d (song n) ≡ most_thefts (polyphony_of d) n) (λ p id lo hi. reaches p id lo hi n) p id

-- The call's answer is the most that n bytes can make.
pub answers_most : AnswersMost
unfolding song_answer
answers_most p n buffer r f =
    let h = in_range p r in
    rw (r, f) (ap Ok
    (ap (λ (d : Device). thefts d (song n)) (started-fresh p 0 r (omega arith)) ∙ reaches p 0 h.0 h.1 n))

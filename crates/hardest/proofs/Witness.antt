-- The claims bite. First their words, whatever the device: a claim that is narrowed or emptied behind its name would
-- not give these facts. Then what a driver's team draws from the claims alone: the queue for the longest song, and a
-- bound for a song of SysEx, resets and MIP messages that nobody played.
-- Assumes nothing.
use Rattle.std.specs.Prelude.{Ok}
use mathlib.Core.Path.{◌≡◌, refl, ap, ◌∙◌, subst}
use mathlib.Core.Bool.{false}
use mathlib.Core.List.{List, [], ◌∷◌}
use Prim.Native.Nat.{ℕ, ◌≤◌}
use lib.ListN.{length}
use Rattle.instrument.specs.Instrument.{fresh}
use Rattle.device.specs.declared.Device.{Device}
use Rattle.device.specs.Device.{is_wrong_p, started}
use Rattle.song.specs.Song.{thefts, song, is_too_long, song_answer}
use Rattle.hardest.specs.Hardest.{most_thefts, new_device, polyphony_of, NoWorse, Reached, AnswersMost}
use Rattle.hardest.proofs.Starts.{started-fresh, is_right}
use Rattle.hardest.proofs.Worst.{no_worse}
use Rattle.hardest.proofs.Reached.{reached}

-- ---- the words

-- any P and own ID, refused or not, and any list of bytes
pub every_list : NoWorse → (p id : ℕ) (l : List ℕ)
    → thefts (new_device p id) l ≤ most_thefts (polyphony_of (new_device p id)) (length l)
every_list h = h

-- songs of every length
pub every_length : Reached → (p id n : ℕ)
    → thefts (new_device p id) (song n) ≡ most_thefts (polyphony_of (new_device p id)) n
every_length h = h

-- every call that isn't refused
pub every_call : AnswersMost → (p n : ℕ) (buffer : List ℕ) → is_wrong_p p ≡ false
    → is_too_long n (length buffer) ≡ false → song_answer p n buffer ≡ Ok (most_thefts p n)
every_call h = h

pub any_start : (p id : ℕ) → new_device p id ≡ (started p id).device
any_start p id = refl

pub own_polyphony : (d : Device) → polyphony_of d ≡ d.instrument.polyphony
own_polyphony d = refl

-- P 64: the longest song, and the song that is a byte short of the first theft and the one that has it; no byte at all
pub some_thefts : (most_thefts 64 65536 ≡ 32703) × (most_thefts 64 130 ≡ 0)
    × (most_thefts 64 131 ≡ 1) × (most_thefts 1 0 ≡ 0)
unfolding most_thefts
some_thefts = (refl, refl, refl, refl)

-- ---- from the claims alone

-- R13.1 in its own words: a device of P generators, P from 1 to 64, and any own ID that a start accepts
module _ (p id : ℕ) (lo : 1 ≤ p) (hi : p ≤ 64) (h : id ≤ 126) where
  has_p : polyphony_of (new_device p id) ≡ p
  unfolding fresh
  has_p = ap polyphony_of (started-fresh p id (is_right p lo hi) h)

  pub at_most_lem : (l : List ℕ) → thefts (new_device p id) l ≤ most_thefts p (length l)
  at_most_lem l = subst (λ (q : ℕ). thefts (new_device p id) l ≤ most_thefts q (length l)) has_p (no_worse p id l)

  pub as_many : (n : ℕ) → thefts (new_device p id) (song n) ≡ most_thefts p n
  as_many n = reached p id n ∙ ap (λ (q : ℕ). most_thefts q n) has_p

-- the longest song at P 64, with own ID 126
pub longest : thefts (new_device 64 126) (song 65536) ≡ 32703
unfolding most_thefts started fresh
longest = reached 64 126 65536

-- a refused start: P 65, and the device that it leaves has one generator
pub refused_start : thefts (new_device 65 0) (song 65536) ≡ 32766
unfolding most_thefts started fresh
refused_start = reached 65 0 65536

-- GM System On, a MIP message for channels 1 and 2, notes by running status with a real_time byte between, a drum, a
-- pedal, and a data byte that no status is there for
abbrev pub mixed : List ℕ
mixed =
    0xF0 ∷ 0x7E ∷ 0x7F ∷ 0x09 ∷ 0x01 ∷ 0xF7 ∷ 0xF0 ∷ 0x7F ∷ 0x7F ∷ 0x0B ∷ 0x01 ∷ 0x00 ∷ 0x01 ∷ 0x01 ∷ 0x02 ∷ 0xF7 ∷ 0x40
    ∷ 0x90 ∷ 60 ∷ 64 ∷ 61 ∷ 0xF8 ∷ 64 ∷ 0xB0 ∷ 64 ∷ 127 ∷ 0x91 ∷ 62 ∷ 64 ∷ 0x99 ∷ 36 ∷ 64 ∷ []

pub mixed_at_most_13 : thefts (new_device 2 5) mixed ≤ 13
unfolding most_thefts started fresh
mixed_at_most_13 = no_worse 2 5 mixed

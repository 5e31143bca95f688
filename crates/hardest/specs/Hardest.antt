-- How many thefts n bytes without reports can make on a fresh device (R13.1, R13.2). No list of n bytes makes more,
-- whatever the bytes are, and the song that crate `song` writes makes as many.
use Rattle.std.specs.Prelude.{ℕ, ◌-◌, ◌/◌, ◌≤◌, ◌≡◌, false, List, length}
use Rattle.std.specs.Prelude.{Ok}
use Rattle.device.specs.declared.Device.{Device}
use Rattle.device.specs.Device.{is_wrong_p, started}
use Rattle.song.specs.Song.{thefts, song, is_too_long, song_answer}

-- R13.1: the formula; a difference of natural numbers is 0 where it would be negative
unfoldable pub most_thefts : ℕ → ℕ → ℕ
most_thefts p n = (n - 1) / 2 - p

-- a fresh device: what a start leaves, with any own ID; a refused one is fresh too, with P 1
abbrev pub new_device : ℕ → ℕ → Device
new_device p id = (started p id).device

-- its P
abbrev pub polyphony_of : Device → ℕ
polyphony_of d = d.instrument.polyphony

-- ---- what is claimed, for every start

-- R13.2: no list of n bytes makes more, and every list of bytes is a song
abbrev pub NoWorse : Type 0
NoWorse = (p id : ℕ) (l : List ℕ) → thefts (new_device p id) l ≤ most_thefts (polyphony_of (new_device p id)) (length l)

-- R13.3: the song makes as many, for every n
abbrev pub Reached : Type 0
Reached = (p id n : ℕ) → thefts (new_device p id) (song n) ≡ most_thefts (polyphony_of (new_device p id)) n

-- R13.4: what the call answers where it isn't refused
abbrev pub AnswersMost : Type 0
AnswersMost =
    (p n : ℕ) (buffer : List ℕ) → is_wrong_p p ≡ false → is_too_long n (length buffer) ≡ false
    → song_answer p n buffer ≡ Ok (most_thefts p n)

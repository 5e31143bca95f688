-- The hardest song (section 13 of docs/RULES.md): a song of n bytes in a lent buffer, and its thefts. That no song of
-- n bytes makes more is stated in crate `hardest`.
use Rattle.std.specs.Prelude.{ℕ, ◌+◌, ◌-◌, ◌/◌, ◌%◌, Bool, false, ◌||◌, List, [], ◌∷◌, ◌++◌, eqb, ltb, length, drop, if◌then◌else◌, Result, Ok, Err}
use Rattle.std.proofs.Math.Option.{Option, some, none}
use Rattle.refusals.specs.declared.Refusal.{Refusal}
use Rattle.refusals.specs.declared.Refusal.TheVariants as refusal
use Rattle.refusals.specs.Refusals.{number}
use Rattle.loops.specs.Cases.{bit}
use Rattle.loops.specs.Passes.{up_to}
use Rattle.allocation.specs.Allocation.{is_stolen}
use Rattle.playing.specs.declared.Answer.{Answer}
use Rattle.playing.specs.declared.Answer.TheVariants.{Nothing, Done, Note, NoNote, Number}
use Rattle.device.specs.declared.Device.{Device}
use Rattle.device.specs.Device.{is_wrong_p, started, byte_taken}

-- ---- thefts

-- R13.4: a note-on that steals: by number 11 nobody loses a note
abbrev pub is_theft : Answer → Bool
is_theft (Note c k g w) = is_stolen w
is_theft Nothing = false
is_theft Done = false
is_theft (NoNote n c k) = false
is_theft (Number n) = false

-- how many of the bytes are answered by a theft, without reports
unfoldable pub thefts : Device → List ℕ → ℕ
thefts d [] = 0
thefts d (b ∷ l) = bit (is_theft (byte_taken d b).answer) + thefts (byte_taken d b).device l

-- ---- the song

-- R13.5: note-on of channel 1 and then, by running status, keys 0, 1, .. 127, 0, .. with velocity 64; the same for
-- every P
unfoldable pub song_byte : ℕ → ℕ
song_byte i = if eqb i 0 then 0x90 else if eqb (i % 2) 1 then (i - 1) / 2 % 128 else 64

abbrev pub song : ℕ → List ℕ
song n = up_to song_byte n

-- ---- the call that writes and plays it

-- R8.25: n above 65,536, or above what the buffer has room for
abbrev pub is_too_long : ℕ → ℕ → Bool
is_too_long n room = ltb 65536 n || ltb room n

-- R13.6: number 1 before 25, R8.1; R13.4: else the thefts on a fresh device of polyphony P, with own ID 0
unfoldable pub song_answer : ℕ → ℕ → List ℕ → Result ℕ Refusal
song_answer p n buffer =
    if is_wrong_p p then Err refusal.WrongPolyphony else
    if is_too_long n (length buffer) then Err refusal.SongTooLong else
    Ok (thefts (started p 0).device (song n))

-- R13.3: the buffer after it: the song, and behind it what was there; R13.6: refused, it stays as it was
unfoldable pub song_written : ℕ → ℕ → List ℕ → List ℕ
song_written p n buffer =
    if is_wrong_p p then buffer else
    if is_too_long n (length buffer) then buffer else
    song n ++ drop n buffer

-- the number of an answer, where it has one
abbrev pub song_number : Result ℕ Refusal → Option ℕ
song_number (Ok t) = none
song_number (Err r) = some (number r)

-- R13.6: 0 thefts beside a number
abbrev pub thefts_in : Result ℕ Refusal → ℕ
thefts_in (Ok t) = t
thefts_in (Err r) = 0

-- What is said of a song in a page bites: its answer, what standard output gets, and a page without room. A definition
-- loosened behind its name would not give these facts.
-- Assumes nothing.
use Rattle.std.specs.Prelude.{Result, Ok, Err}
use Prim.Native.Nat.{ℕ, ◌≤◌}
use mathlib.Core.Path.{◌≡◌, ◌∙◌, ap}
use mathlib.Core.List.{List, ◌∷◌}
use lib.ListN.{length, take, drop}
use Rattle.refusals.specs.declared.Refusal.{Refusal}
use Rattle.refusals.specs.declared.Refusal.TheVariants as refusal
use Rattle.song.specs.Song.{song, song_answer}
use Rattle.song_lines.specs.SongLines.{with_song, SongPut}

module _ (p n : ℕ) (old : List ℕ) (a : Result ℕ Refusal) (used : ℕ) (new : List ℕ) (s : SongPut p n old a used new) where
  pub told : 2 ≤ length old → a ≡ song_answer p n (drop 2 old)
  told = s.answered

  -- with thefts it is P, the own ID 0 and the song
  pub given : 2 ≤ length old → (t : ℕ) → song_answer p n (drop 2 old) ≡ Ok t → take used new ≡ p ∷ 0 ∷ song n
  given h t e = s.put h ∙ ap (with_song p n) e

  pub no_room : length old ≤ 1 → (a ≡ Err refusal.SongTooLong) × (used ≡ 0)
  no_room = s.small

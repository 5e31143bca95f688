-- R17.2, R17.3: the program `hardest_song`: a request a line, `P,n` in decimal. For each a line `number,thefts` on
-- standard error, what `song_answer P n` answers, and on standard output the listing program's input: P, the own ID 0,
-- and the song (of several lines one behind the other; the listing program takes one). All text is ASCII, and every
-- line ends with byte 0AH.
use Rattle.std.specs.Prelude.{ℕ, ◌≤◌, ◌≡◌, Bool, ◌&&◌, List, [], ◌∷◌, ◌++◌, eqb, length, take, drop, if◌then◌else◌, Result, Ok, Err}
use Rattle.loops.specs.Cases.{at_most, or_zero}
use Rattle.text.specs.Text.{decimal}
use Rattle.fields.specs.declared.Line.{Line}
use Rattle.fields.specs.Line.{is_empty}
use Rattle.fields.specs.Answers.{malformed_line, all_answers_by}
use Rattle.fields.specs.Fields.{is_number, spelled}
use Rattle.refusals.specs.declared.Refusal.TheVariants as refusal
use Rattle.refusals.specs.declared.Refusal.{Refusal}
use Rattle.song.specs.Song.{song, song_answer, song_number, thefts_in}
use Rattle.song_lines.specs.declared.Request.{Request}
use Rattle.song_lines.specs.declared.Request.TheVariants.{Nothing, Malformed, Song}

-- ---- what a line asks for

-- a request has two numbers, the second with a digit as the first; a P above 255 is refused as 255 is
abbrev pub is_request : Line → Bool
is_request c = c.digit && eqb c.commas 1

unfoldable pub line_request : Line → Request
line_request c = if is_request c then Song (at_most 255 c.previous) c.last else Malformed

-- a byte of the input asks where it ends a line
unfoldable pub request : Line → ℕ → Request
request c b = if eqb b 10 then line_request c else Nothing

-- the end of the input: a last line without its 0AH asks all the same, if it has a byte
unfoldable pub end_request : Line → Request
end_request c = if is_empty c then Nothing else line_request c

-- ---- what it gets

-- the line of an answer: its number, 0 for a song, and the thefts
unfoldable pub answer_line : Result ℕ Refusal → List ℕ
answer_line a = decimal (or_zero (song_number a)) ++ (44 ∷ decimal (thefts_in a)) ++ (10 ∷ [])

-- what standard error gets, where the song is written into this room
abbrev pub answer_to : List ℕ → Request → List ℕ
answer_to room Nothing = []
answer_to room Malformed = malformed_line
answer_to room (Song p n) = answer_line (song_answer p n room)

-- and what standard output gets: a refusal nothing
abbrev pub with_song : ℕ → ℕ → Result ℕ Refusal → List ℕ
with_song p n (Ok t) = p ∷ 0 ∷ song n
with_song p n (Err r) = []

abbrev pub song_to : List ℕ → Request → List ℕ
song_to room Nothing = []
song_to room Malformed = []
song_to room (Song p n) = with_song p n (song_answer p n room)

-- a song put at a page's start, where the page has room for P and the own ID before it: its answer, how many bytes
-- standard output gets, and the page behind it
pub record SongPut (p n : ℕ) (old : List ℕ) (a : Result ℕ Refusal) (used : ℕ) (new : List ℕ) : Type 0 where
  pub answered : 2 ≤ length old → a ≡ song_answer p n (drop 2 old)
  pub put : 2 ≤ length old → take used new ≡ song_to (drop 2 old) (Song p n)
  pub small : length old ≤ 1 → (a ≡ Err refusal.SongTooLong) × (used ≡ 0)

-- R17.2: what an input gets (crate `fields`, specs/Answers)
abbrev pub answers : List ℕ → List ℕ → List ℕ
answers room input = all_answers_by (λ c. answer_to room (line_request c)) input

abbrev pub songs : List ℕ → List ℕ → List ℕ
songs room input = all_answers_by (λ c. song_to room (line_request c)) input

-- ---- a line by its fields

-- a request is two fields, each a number; any other line is malformed. That an input gets what its lines' fields ask
-- for is in proofs/Sentences
unfoldable pub fields_request : List ℕ → List (List ℕ) → Request
fields_request p [] = Malformed
fields_request p (n ∷ []) = if is_number p && is_number n then Song (spelled 0 p) (spelled 0 n) else Malformed
fields_request p (n ∷ g ∷ gs) = Malformed

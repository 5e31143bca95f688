-- What an input gets, said of lines and their fields and not of bytes: the laws of crate `fields` for what a request
-- gets, on standard error and on standard output.
-- Assumes nothing.
use Rattle.std.specs.Prelude.{if◌then◌else◌, Result}
use Prim.Native.Nat.{ℕ, ◌^◌, ◌<◌}
use mathlib.Core.Path.{◌≡◌, refl, ◌∙◌}
use mathlib.Core.Bool.{Bool, true, false, ◌&&◌}
use mathlib.Core.List.{List, [], ◌∷◌, ◌++◌}
use lib.Dec.{eqb, lit<}
use Rattle.loops.specs.Cases.{at_most, or_zero}
use Rattle.loops.specs.Passes.{count}
use Rattle.text.specs.Text.{decimal_within, decimal}
use Rattle.fields.specs.declared.Line.{Line}
use Rattle.fields.specs.Line.{kept, is_empty}
use Rattle.fields.specs.Answers.{malformed_line, answer_by, answers_by, end_answer_by, all_answers_by}
use Rattle.fields.specs.Fields.{is_field, are_fields, line_ends, behind, number_from, is_number, spelled}
use Rattle.fields.proofs.Told.{Reads, told, never, either}
use Rattle.fields.proofs.Written.{written, ends_parts, ends_decimal}
use Rattle.fields.proofs.Sentences as sentences
use Rattle.refusals.specs.declared.Refusal.{Refusal}
use Rattle.song.specs.Song.{song_answer, song_number, thefts_in}
use Rattle.song_lines.specs.declared.Request.{Request}
use Rattle.song_lines.specs.declared.Request.TheVariants.{Nothing, Malformed, Song}
use Rattle.song_lines.specs.SongLines.{is_request, line_request, request, end_request, answer_line}
use Rattle.song_lines.specs.SongLines.{answer_to, with_song, song_to, answers, songs, fields_request}
use Rattle.song_lines.proofs.Refused.{p_cut, n_cut}

-- ---- for whatever a request gets

-- it gets the same where P or n is cut to one that is refused too, and where nothing is asked for it gets nothing
record Gets (gets : Request → List ℕ) : Type 0 where
  nothing : gets Nothing ≡ []
  p : (most p n : ℕ) → 64 < most → gets (Song (at_most most p) n) ≡ gets (Song p n)
  n : (most p n : ℕ) → 65536 < most → gets (Song p (at_most most n)) ≡ gets (Song p n)

module _ (gets : Request → List ℕ) (g : Gets gets) where
  reads : Reads (λ c. gets (line_request c)) 1 (λ k p n. gets (Song p n)) (gets Malformed)
  unfolding line_request
  reads = record {
    few = lit< tt;
    is = λ c. go (is_request c) c.previous c.last;
    cut = λ k p n. rw (g.p 99999999 p (kept n) (lit< tt), g.n 99999999 p n (lit< tt));
  }
    where
      go : (x : Bool) (p n : ℕ)
          → gets (if x then Song (at_most 255 p) n else Malformed) ≡ (if x then gets (Song p n) else gets Malformed)
      go true p n = g.p 255 p n (lit< tt)
      go false p n = refl

  two : (x y : Bool) (p n : ℕ)
      → (if x && true then (if y && true then gets (Song p n) else gets Malformed) else gets Malformed)
      ≡ gets (if x && y then Song p n else Malformed)
  two true true p n = refl
  two true false p n = refl
  two false y p n = refl

  fields-get : (f : List ℕ) (gs : List (List ℕ))
      → told 1 (λ k p n. gets (Song p n)) (gets Malformed) 0 0 0 f gs ≡ gets (fields_request f gs)
  unfolding told fields_request
  fields-get f [] = never (is_number f) _ _
  fields-get f (h ∷ []) = two (is_number f) (is_number h) _ _
  fields-get f (h ∷ i ∷ []) = rw (never (is_number i), either (is_number h)) (either (is_number f) _)
  fields-get f (h ∷ i ∷ j ∷ gs) = rw (never (is_number i), either (is_number h)) (either (is_number f) _)

  -- a line gets what its fields ask for
  line_gets : (f : List ℕ) (gs : List (List ℕ)) → is_field f ≡ true → are_fields gs ≡ true
      → all_answers_by (λ c. gets (line_request c)) (f ++ behind gs) ≡ gets (fields_request f gs)
  line_gets f gs e es = sentences.line-told (λ c. gets (line_request c)) 1
      (λ k p n. gets (Song p n)) (gets Malformed) reads f gs e es ∙ fields-get f gs

  -- two numbers, of any length and with any leading zeros: also where one is larger than those that are kept
  two-get : (ps ns : List ℕ) → is_number ps ≡ true → is_number ns ≡ true
      → all_answers_by (λ c. gets (line_request c)) (ps ++ behind (ns ∷ [])) ≡ gets (Song (spelled 0 ps) (spelled 0 ns))
  unfolding fields_request are_fields
  two-get ps ns e f =
      line_gets ps (ns ∷ []) (sentences.number_field false ps e) (rw (sentences.number_field false ns f)) ∙ rw (e, f)

  -- what an input gets is what its bytes ask for, and its end
  byte-gets : (c : Line) (b : ℕ) → answer_by (λ k. gets (line_request k)) c b ≡ gets (request c b)
  unfolding answer_by request
  byte-gets c b = go (eqb b 10)
    where
      go : (x : Bool) → (if x then gets (line_request c) else []) ≡ gets (if x then line_request c else Nothing)
      go true = refl
      go false = rw g.nothing

  end-gets : (c : Line) → end_answer_by (λ k. gets (line_request k)) c ≡ gets (end_request c)
  unfolding end_answer_by end_request
  end-gets c = go (is_empty c)
    where
      go : (x : Bool) → (if x then [] else gets (line_request c)) ≡ gets (if x then Nothing else line_request c)
      go true = rw g.nothing
      go false = refl

-- ---- on standard error and on standard output

module _ (page : List ℕ) where
  answer-gets : Gets (λ r. answer_to page r)
  answer-gets = record {
    nothing = refl;
    p = λ most p n h. p_cut page (λ q m a. answer_line a) (λ p n q m. refl) (λ p n m. refl) most p n h;
    n = λ most p n h. n_cut page (λ q m a. answer_line a) (λ p n q m. refl) (λ p n m. refl) most p n h;
  }

  song-gets : Gets (λ r. song_to page r)
  song-gets = record {
    nothing = refl;
    p = λ most p n h. p_cut page with_song (λ p n q m. refl) (λ p n m. refl) most p n h;
    n = λ most p n h. n_cut page with_song (λ p n q m. refl) (λ p n m. refl) most p n h;
  }

  -- a line is answered by its fields: two numbers are a request, and any other line is malformed
  pub line-answered : (f : List ℕ) (gs : List (List ℕ)) → is_field f ≡ true
      → are_fields gs ≡ true → answers page (f ++ behind gs) ≡ answer_to page (fields_request f gs)
  line-answered f gs e es = line_gets (λ r. answer_to page r) answer-gets f gs e es

  pub line_written : (f : List ℕ) (gs : List (List ℕ)) → is_field f ≡ true
      → are_fields gs ≡ true → songs page (f ++ behind gs) ≡ song_to page (fields_request f gs)
  line_written f gs e es = line_gets (λ r. song_to page r) song-gets f gs e es

  -- numbers of any length
  pub request-answered : (ps ns : List ℕ) → is_number ps ≡ true → is_number ns ≡ true
      → answers page (ps ++ behind (ns ∷ [])) ≡ answer_line (song_answer (spelled 0 ps) (spelled 0 ns) page)
  request-answered ps ns e f = two-get (λ r. answer_to page r) answer-gets ps ns e f

  -- a request as a program writes it, of any two numbers up to twenty digits
  pub decimal-request : (p n : ℕ) → p < 10 ^ 20 → n < 10 ^ 20
      → (answers page (decimal p ++ behind (decimal n ∷ [])) ≡ answer_line (song_answer p n page))
      × (songs page (decimal p ++ behind (decimal n ∷ [])) ≡ with_song p n (song_answer p n page))
  decimal-request p n h i =
      let x = written 19 p h in
      let y = written 19 n i in (
        two-get (λ r. answer_to page r) answer-gets (decimal p) (decimal n) x.number y.number ∙ rw (x.is, y.is),
        two-get (λ r. song_to page r) song-gets (decimal p) (decimal n) x.number y.number ∙ rw (x.is, y.is),
      )

  -- the program asks byte by byte: what it tells and writes for each is the input's whole
  pub byte_answered : (c : Line) (b : ℕ)
      → answer_by (λ k. answer_to page (line_request k)) c b ≡ answer_to page (request c b)
  byte_answered c b = byte-gets (λ r. answer_to page r) answer-gets c b

  pub byte_written : (c : Line) (b : ℕ) → answer_by (λ k. song_to page (line_request k)) c b ≡ song_to page (request c b)
  byte_written c b = byte-gets (λ r. song_to page r) song-gets c b

  pub end_answered : (c : Line) → end_answer_by (λ k. answer_to page (line_request k)) c ≡ answer_to page (end_request c)
  end_answered c = end-gets (λ r. answer_to page r) answer-gets c

  pub end_written : (c : Line) → end_answer_by (λ k. song_to page (line_request k)) c ≡ song_to page (end_request c)
  end_written c = end-gets (λ r. song_to page r) song-gets c

  -- a line gets its answer and its song whatever stood before it and whatever comes behind it
  pub lines_apart : (xs ys : List ℕ) → answers page (xs ++ 10 ∷ ys) ≡ answers page (xs ++ 10 ∷ []) ++ answers page ys
  lines_apart xs ys = sentences.lines_apart (λ c. answer_to page (line_request c)) xs ys

  pub songs_apart : (xs ys : List ℕ) → songs page (xs ++ 10 ∷ ys) ≡ songs page (xs ++ 10 ∷ []) ++ songs page ys
  songs_apart xs ys = sentences.lines_apart (λ c. song_to page (line_request c)) xs ys

  -- a last line without its 0AH is answered as with it
  pub last_line : (xs : List ℕ) (b : ℕ) → eqb b 10 ≡ false
      → (answers page (xs ++ b ∷ []) ≡ answers page (xs ++ b ∷ 10 ∷ []))
      × (songs page (xs ++ b ∷ []) ≡ songs page (xs ++ b ∷ 10 ∷ []))
  last_line xs b e = (
    sentences.last_line (λ c. answer_to page (line_request c)) xs b e,
    sentences.last_line (λ c. song_to page (line_request c)) xs b e,
  )

  -- as many lines come out as go in: an answer has one 0AH
  ends_answer : (a : Result ℕ Refusal) → line_ends (answer_line a) ≡ 1
  unfolding count answer_line
  ends_answer a =
      let n = decimal (or_zero (song_number a)) in
      let t = decimal (thefts_in a) in
      ends_parts (n ++ (44 ∷ t)) (10 ∷ [])
      ∙ rw (ends_parts n (44 ∷ t), ends_decimal 20 (or_zero (song_number a)), ends_decimal 20 (thefts_in a))

  ends_line : (c : Line) (x : Bool)
      → line_ends (answer_to page (if x then Song (at_most 255 c.previous) c.last else Malformed)) ≡ 1
  unfolding count
  ends_line c true = ends_answer (song_answer (at_most 255 c.previous) c.last page)
  ends_line c false = refl

  pub line_for-line : (c : Line) (bs : List ℕ)
      → line_ends (answers_by (λ k. answer_to page (line_request k)) c bs) ≡ line_ends bs
  unfolding line_request
  line_for-line c bs =
      sentences.line_for-line (λ k. answer_to page (line_request k)) (λ k. ends_line k (is_request k)) c bs

  -- ---- some lines

  -- an empty line, and `2,9,1`
  pub empty_line : answers page (10 ∷ []) ≡ malformed_line
  unfolding is_field are_fields fields_request
  empty_line = line-answered [] [] refl refl

  pub three_numbers : answers page (50 ∷ 44 ∷ 57 ∷ 44 ∷ 49 ∷ 10 ∷ []) ≡ malformed_line
  unfolding is_field are_fields fields_request
  three_numbers = line-answered (50 ∷ []) ((57 ∷ []) ∷ (49 ∷ []) ∷ []) refl refl

  -- `0,65537` is answered `1,0`, number 1 before 25, and `1,65537` is `25,0`
  pub wrong_polyphony : answers page (48 ∷ 44 ∷ 54 ∷ 53 ∷ 53 ∷ 51 ∷ 55 ∷ 10 ∷ []) ≡ 49 ∷ 44 ∷ 48 ∷ 10 ∷ []
  unfolding number_from spelled song_answer answer_line decimal_within
  wrong_polyphony = request-answered (48 ∷ []) (54 ∷ 53 ∷ 53 ∷ 51 ∷ 55 ∷ []) refl refl

  pub too_long : answers page (49 ∷ 44 ∷ 54 ∷ 53 ∷ 53 ∷ 51 ∷ 55 ∷ 10 ∷ []) ≡ 50 ∷ 53 ∷ 44 ∷ 48 ∷ 10 ∷ []
  unfolding number_from spelled song_answer answer_line decimal_within
  too_long = request-answered (49 ∷ []) (54 ∷ 53 ∷ 53 ∷ 51 ∷ 55 ∷ []) refl refl

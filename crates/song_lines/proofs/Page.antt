-- A page whose first two bytes are for P and the own ID: what is lent of it is all that stands behind them, and with P
-- and 0 in front the song is what standard output gets.
-- Assumes nothing.
use Rattle.std.specs.Prelude.{Result, Ok, Err}
use Prim.Native.Nat.{ℕ, suc, ◌-◌, ◌+◌, ◌≤◌, ◌<◌}
use mathlib.Core.Path.{◌≡◌, refl, sym, ap, ◌∙◌, subst}
use mathlib.Core.List.{List, [], ◌∷◌, ◌++◌, append-nil}
use native.Mathlib.Omega.{arith}
use lib.ListN.{length, take, drop, set, length-drop, drop_of_length-le}
use lib.Seq.{take_all}
use Rattle.refusals.specs.declared.Refusal.{Refusal}
use Rattle.refusals.specs.declared.Refusal.TheVariants as refusal
use Rattle.song.specs.Song.{song_answer, song_written}
use Rattle.song_lines.specs.declared.Request.TheVariants.{Song}
use Rattle.song_lines.specs.SongLines.{song_to, SongPut}
use Rattle.song_lines.proofs.Refused.{song_in-page, For, for_p, for_n, refused-for}

module _ (page : List ℕ) where
  -- the part of the page that is lent, and what stands behind it
  abbrev lent : List ℕ
  lent = take (length page - 2) (drop 2 page)

  abbrev rest : List ℕ
  rest = drop (length page - 2) (drop 2 page)

  lent-whole : lent ≡ drop 2 page
  lent-whole = take_all (length page - 2) (drop 2 page) (let r = length-drop 2 page in omega arith)

  none-behind : rest ≡ []
  none-behind = drop_of_length-le (drop 2 page) {i = length page - 2} (let r = length-drop 2 page in omega arith)

  pub written_behind : (p n : ℕ) (a : Result ℕ Refusal) (new : List ℕ) → a ≡ song_answer p n lent → new ≡ song_written p n lent
      → (a ≡ song_answer p n (drop 2 page))
      × (take 2 page ++ (new ++ rest) ≡ take 2 page ++ song_written p n (drop 2 page))
  written_behind p n a new e w = (
    e ∙ ap (song_answer p n) lent-whole,
    ap (λ (l : List ℕ). take 2 page ++ l)
        (ap (λ (l : List ℕ). new ++ l) none-behind ∙ append-nil new ∙ w ∙ ap (song_written p n) lent-whole),
  )

-- ---- with P and 0 in front of it

pub small-page : (p n : ℕ) (page new : List ℕ) → length page < 2 → SongPut p n page (Err refusal.SongTooLong) 0 new
small-page p n page new h =
    record { answered = λ e. absurd (omega arith); put = λ e. absurd (omega arith); small = λ e. (refl, refl) }

in_front : (p n t : ℕ) (page new : List ℕ) → 2 ≤ length page
    → song_answer p n (drop 2 page) ≡ Ok t → new ≡ take 2 page ++ song_written p n (drop 2 page)
    → take (n + 2) (set (set new 0 p) 1 0) ≡ song_to (drop 2 page) (Song p n)
in_front p n t [] new h e w = absurd (omega arith)
in_front p n t (x ∷ []) new h e w = absurd (omega arith)
in_front p n t (x ∷ y ∷ l) new h e w =
    let two : n + 2 ≡ suc (suc n) = omega arith in
    rw (w, two, e) (ap (λ (s : List ℕ). p ∷ 0 ∷ s) (song_in-page p n t l e))

pub put-song : (p n t : ℕ) (page new : List ℕ) → 2 ≤ length page
    → song_answer p n (drop 2 page) ≡ Ok t → new ≡ take 2 page ++ song_written p n (drop 2 page)
    → SongPut p n page (Ok t) (n + 2) (set (set new 0 p) 1 0)
put-song p n t page new h e w =
    record { answered = λ k. sym e; put = λ k. in_front p n t page new h e w; small = λ k. absurd (omega arith) }

-- a refusal gets nothing
pub put_wrong : (p n : ℕ) (page new : List ℕ) → 2 ≤ length page
    → song_answer p n (drop 2 page) ≡ Err refusal.WrongPolyphony → SongPut p n page (Err refusal.WrongPolyphony) 0 new
put_wrong p n page new h e = record { answered = λ k. sym e; put = λ k. rw e; small = λ k. absurd (omega arith) }

pub put_long : (p n : ℕ) (page new : List ℕ) → 2 ≤ length page
    → song_answer p n (drop 2 page) ≡ Err refusal.SongTooLong → SongPut p n page (Err refusal.SongTooLong) 0 new
put_long p n page new h e = record { answered = λ k. sym e; put = λ k. rw e; small = λ k. absurd (omega arith) }

pub put_refused : (p n : ℕ) (r : Refusal) (page new : List ℕ) → 2 ≤ length page
    → song_answer p n (drop 2 page) ≡ Err r → SongPut p n page (Err r) 0 new
put_refused p n r page new h e = go (refused-for p n r (drop 2 page) e)
  where
    go : For r → SongPut p n page (Err r) 0 new
    go (for_p q) =
        subst (λ (x : Refusal). SongPut p n page (Err x) 0 new) (sym q)
        (put_wrong p n page new h (e ∙ ap Err q))
    go (for_n q) =
        subst (λ (x : Refusal). SongPut p n page (Err x) 0 new) (sym q)
        (put_long p n page new h (e ∙ ap Err q))

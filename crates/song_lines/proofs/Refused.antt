-- A P or an n that is above all that are accepted may be cut to one that is refused too: what the request gets stays.
-- And a page may serve for the next song: it stays as long.
-- Assumes nothing.
use Rattle.std.specs.Prelude.{if◌then◌else◌, Result, Ok, Err}
use Prim.Native.Nat.{ℕ, ◌≤◌, ◌<◌}
use mathlib.Core.Path.{◌≡◌, refl}
use mathlib.Core.Bool.{Bool, true, false, ◌||◌}
use mathlib.Core.List.{List, ◌++◌}
use native.Mathlib.Omega.{arith}
use lib.Dec.{leb, ltb}
use lib.ListN.{length, take, drop, length-append, length-drop}
use lib.Seq.{take_at}
use borrow.Author.Tests.{lt-ltb, leb-true, leb-false}
use Rattle.loops.specs.Cases.{at_most}
use Rattle.loops.proofs.Fill.{length-up_to}
use Rattle.device.specs.Device.{is_wrong_p, started}
use Rattle.refusals.specs.declared.Refusal.{Refusal}
use Rattle.refusals.specs.declared.Refusal.TheVariants as refusal
use Rattle.song.specs.Song.{thefts, song_byte, song, is_too_long, song_answer, song_written}
use Rattle.song.proofs.Written.{short, room}

-- ---- refused

-- an answer where P is refused or n is too long
abbrev refused_by : ℕ → Result ℕ Refusal
refused_by p = if is_wrong_p p then Err refusal.WrongPolyphony else Err refusal.SongTooLong

module _ (page : List ℕ) where
  wrong_p : (p n : ℕ) → 64 < p → song_answer p n page ≡ Err refusal.WrongPolyphony
  unfolding song_answer
  wrong_p p n h = rw (lt-ltb 64 p h) (go (ltb p 1))
    where
      go : (x : Bool)
          → (if x || true then Err refusal.WrongPolyphony else if is_too_long n (length page) then Err refusal.SongTooLong
          else Ok (thefts (started p 0).device (song n))) ≡ Err refusal.WrongPolyphony
      go true = refl
      go false = refl

  too_long : (p n : ℕ) → 65536 < n → song_answer p n page ≡ refused_by p
  unfolding song_answer
  too_long p n h = rw (lt-ltb 65536 n h)

  -- what a request gets by its answer, where a refusal gets the same whatever P and n were
  module _ (gets : ℕ → ℕ → Result ℕ Refusal → List ℕ)
      (one : (p n q m : ℕ) → gets p n (Err refusal.WrongPolyphony) ≡ gets q m (Err refusal.WrongPolyphony))
      (long : (p n m : ℕ) → gets p n (Err refusal.SongTooLong) ≡ gets p m (Err refusal.SongTooLong)) where
    pub p_cut : (most p n : ℕ) → 64 < most
        → gets (at_most most p) n (song_answer (at_most most p) n page) ≡ gets p n (song_answer p n page)
    p_cut most p n h = go (leb p most) refl
      where
        q : ℕ
        q = at_most most p

        go : (x : Bool) → leb p most ≡ x → gets q n (song_answer q n page) ≡ gets p n (song_answer p n page)
        go true e = let l = leb-true p most e in let c : q ≡ p = omega arith in rw c
        go false e =
            let l = leb-false p most e in
            rw (wrong_p q n (omega arith), wrong_p p n (omega arith)) (one q n p n)

    same-refusal : (p n m : ℕ) → gets p n (refused_by p) ≡ gets p m (refused_by p)
    same-refusal p n m = go (is_wrong_p p)
      where
        go : (x : Bool)
            → gets p n (if x then Err refusal.WrongPolyphony else Err refusal.SongTooLong) ≡ gets p m (if x then Err refusal.WrongPolyphony else Err refusal.SongTooLong)
        go true = one p n p m
        go false = long p n m

    pub n_cut : (most p n : ℕ) → 65536 < most
        → gets p (at_most most n) (song_answer p (at_most most n) page) ≡ gets p n (song_answer p n page)
    n_cut most p n h = go (leb n most) refl
      where
        m : ℕ
        m = at_most most n

        go : (x : Bool) → leb n most ≡ x → gets p m (song_answer p m page) ≡ gets p n (song_answer p n page)
        go true e = let l = leb-true n most e in let c : m ≡ n = omega arith in rw c
        go false e =
            let l = leb-false n most e in
            rw (too_long p m (omega arith), too_long p n (omega arith)) (same-refusal p m n)

-- ---- the page

-- what a request is answered depends on the page's length alone
pub same_room : (p n : ℕ) (page other : List ℕ)
    → length page ≡ length other → song_answer p n page ≡ song_answer p n other
unfolding song_answer
same_room p n page other e = rw e

-- and a request leaves the page as long as it was
pub same_length : (p n : ℕ) (page : List ℕ) → length (song_written p n page) ≡ length page
unfolding song_written
same_length p n page = go (is_wrong_p p) (is_too_long n (length page)) refl
  where
    go : (x y : Bool) → is_too_long n (length page) ≡ y
        → length (if x then page else if y then page else song n ++ drop n page) ≡ length page
    go true y e = refl
    go false true e = refl
    go false false e =
        let h = room n page e in
        let l : length (song n) ≡ n = length-up_to song_byte n in
        let d = length-drop n page in
        rw (length-append (song n) (drop n page)) (omega arith)

-- a song that is answered with its thefts is what stands in the page's first n bytes
record Fits (p n : ℕ) (page : List ℕ) : Type 0 where
  right : is_wrong_p p ≡ false
  fitting : is_too_long n (length page) ≡ false

fits : (p n t : ℕ) (page : List ℕ) → song_answer p n page ≡ Ok t → Fits p n page
unfolding song_answer
fits p n t page e = go (is_wrong_p p) (is_too_long n (length page)) refl refl e
  where
    go : (x y : Bool) → is_wrong_p p ≡ x → is_too_long n (length page) ≡ y
        → (if x then Err refusal.WrongPolyphony else if y then Err refusal.SongTooLong else Ok (thefts (started p 0).device (song n)))
        ≡ Ok t → Fits p n page
    go true y a b e = record { right = cc; fitting = cc }
    go false true a b e = record { right = a; fitting = cc }
    go false false a b e = record { right = a; fitting = b }

-- a refusal is for P or for n
pub data For (r : Refusal) : Type 0 where
  for_p : r ≡ refusal.WrongPolyphony → For r
  for_n : r ≡ refusal.SongTooLong → For r

pub refused-for : (p n : ℕ) (r : Refusal) (page : List ℕ) → song_answer p n page ≡ Err r → For r
unfolding song_answer
refused-for p n r page e = go (is_wrong_p p) (is_too_long n (length page)) e
  where
    go : (x y : Bool) → (if x then Err refusal.WrongPolyphony else if y then Err refusal.SongTooLong
        else Ok (thefts (started p 0).device (song n))) ≡ Err r → For r
    go true y e = for_p (cc)
    go false true e = for_n (cc)
    go false false e = absurd (cc)

-- and it is no longer than the longest song
pub song-short : (p n t : ℕ) (page : List ℕ) → song_answer p n page ≡ Ok t → n ≤ 65536
song-short p n t page e = short n page (fits p n t page e).fitting

pub song_in-page : (p n t : ℕ) (page : List ℕ) → song_answer p n page ≡ Ok t → take n (song_written p n page) ≡ song n
unfolding song_written
song_in-page p n t page e =
    let f = fits p n t page e in
    rw (f.right, f.fitting) (take_at (song n) (drop n page) n (length-up_to song_byte n))

-- However an input is cut into reads, its bytes list the same: what two parts list one after the other is what the
-- whole lists. And 128 bytes a byte are room for it.
-- Assumes nothing.
use Rattle.std.specs.Prelude.{if◌then◌else◌, Some, None}
use Prim.Native.Nat.{ℕ, ◌+◌, ◌*◌, ◌≤◌, ◌<◌}
use mathlib.Core.Path.{◌≡◌, refl, sym, ◌∙◌}
use mathlib.Core.Bool.{Bool, true, false}
use mathlib.Core.List.{List, [], ◌∷◌, ◌++◌, append-nil, append_assoc}
use native.Mathlib.Numerals.{add-one}
use native.Mathlib.Omega.{arith}
use lib.ListN.{length, take, get_or, length-append}
use lib.Seq.{take-suc, take_all, take_at}
use Rattle.text.specs.Text.{Put}
use Rattle.text.proofs.Joined.{joined, whole}
use Rattle.lines.specs.Lines.{line_of}
use Rattle.lines.proofs.Length.{line-length}
use Rattle.device.specs.declared.Output.{Output}
use Rattle.device.specs.Device.{started, byte_taken}
use Rattle.listed.specs.declared.Awaits.{Awaits}
use Rattle.listed.specs.declared.Awaits.TheVariants.{Polyphony, Id, Midi, Refused}
use Rattle.listed.specs.declared.Lister.{Lister}
use Rattle.listed.specs.Listing.{Lists, behind_start, is_refused, start_line}
use Rattle.listed.specs.Listing.{midi_line, line_by, line, after, listed_by, after_all}

pub after_parts : (l : Lister) (xs ys : List ℕ) → after_all l (xs ++ ys) ≡ after_all (after_all l xs) ys
unfolding after_all
after_parts l [] ys = refl
after_parts l (x ∷ xs) ys = after_parts (after l x) xs ys

pub listed_parts : (l : Lister) (xs ys : List ℕ) → listed_by l (xs ++ ys) ≡ listed_by l xs ++ listed_by (after_all l xs) ys
unfolding listed_by after_all
listed_parts l [] ys = refl
listed_parts l (x ∷ xs) ys = rw (listed_parts (after l x) xs ys)
    (sym (append_assoc (line l x) (listed_by (after l x) xs) (listed_by (after_all (after l x) xs) ys)))

-- a byte more, and all of them
module _ (l : Lister) (bs : List ℕ) (i : ℕ) where
  next-after : i < length bs → after_all l (take (i + 1) bs) ≡ after (after_all l (take i bs)) (get_or bs i 0)
  unfolding after_all
  next-after h = rw (add-one i, take-suc bs i 0 h) (after_parts l (take i bs) (get_or bs i 0 ∷ []))

  next-listed : i < length bs
      → listed_by l (take (i + 1) bs) ≡ listed_by l (take i bs) ++ line (after_all l (take i bs)) (get_or bs i 0)
  unfolding listed_by
  next-listed h =
      rw (add-one i, take-suc bs i 0 h)
      (listed_parts l (take i bs) (get_or bs i 0 ∷ []) ∙ rw (append-nil (line (after_all l (take i bs)) (get_or bs i 0))))

  pub one_more : (k r : Lister) {p q s : List ℕ} {used next : ℕ} → i < length bs → k ≡ after_all l (take i bs)
      → Put p 0 (listed_by l (take i bs)) used q → Lists q used (line k (get_or bs i 0)) (after k (get_or bs i 0)) r next s
      → (r ≡ after_all l (take (i + 1) bs)) × Put p 0 (listed_by l (take (i + 1) bs)) next s
  one_more k r h e a b = (b.kept ∙ rw (e, next-after h), rw (next-listed h) (joined a (rw e at b.put)))

  pub no_more : (k : Lister) {p q : List ℕ} {used : ℕ} → length bs ≤ i → k ≡ after_all l (take i bs)
      → Put p 0 (listed_by l (take i bs)) used q → Lists p 0 (listed_by l bs) (after_all l bs) k used q
  no_more k h e a = record { kept = rw (take_all i bs h) at e; put = rw (take_all i bs h) at a }

start_length : (o : Output) → length (start_line o) ≤ 128
unfolding start_line
start_length o = go (is_refused (behind_start o.answer))
  where
    go : (b : Bool) → length (if b then line_of None o.answer else []) ≤ 128
    go true = line-length None o.answer
    go false = omega arith

midi_length : (l : Lister) (b : ℕ) → length (midi_line l b) ≤ 128
unfolding midi_line
midi_length l b = line-length (Some l.at) (byte_taken l.device b).answer

byte_length : (l : Lister) (b : ℕ) → length (line l b) ≤ 128
unfolding line
byte_length l b = go l.awaits
  where
    go : (w : Awaits) → length (line_by w l b) ≤ 128
    go Polyphony = omega arith
    go (Id p) = start_length (started p b)
    go Midi = midi_length l b
    go (Refused r) = omega arith

pub bytes_length : (l : Lister) (bs : List ℕ) → length (listed_by l bs) ≤ 128 * length bs
unfolding listed_by
bytes_length l [] = omega arith
bytes_length l (b ∷ bs) =
    let h = byte_length l b in
    let t = bytes_length (after l b) bs in
    rw (length-append (line l b) (listed_by (after l b) bs)) (omega arith)

pub stands_whole : (l : Lister) (bs : List ℕ) (used : ℕ) {p q : List ℕ}
    → Put p 0 (listed_by l bs) used q → 128 * length bs ≤ length p → take used q ≡ listed_by l bs
stands_whole l bs used {p} {q} a h =
    let b = bytes_length l bs in
    let w = whole {p = p} {q = q} {t = listed_by l bs} {at = 0} {k = used} (omega arith) a in
    let n : length (listed_by l bs) ≡ used = omega (arith, w.0) in
    rw w.1 (take_at (listed_by l bs) _ used n)

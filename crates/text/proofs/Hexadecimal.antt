-- One byte more behind bytes in hexadecimal: a blank, unless it is the first, and its two digits.
-- Assumes nothing.
use Prim.Native.Nat.{ℕ, zero, suc, ◌+◌, ◌≤◌, ◌<◌}
use mathlib.Core.Path.{◌≡◌, refl}
use mathlib.Core.List.{List, [], ◌∷◌, ◌++◌}
use native.Mathlib.Numerals.{add-one}
use native.Mathlib.Omega.{arith}
use lib.ListN.{length, take, get_or}
use lib.Seq.{take-suc, take_all}
use borrow.Author.Tests.{ne_eqb}
use Rattle.text.specs.Text.{Put, blank_at, hexadecimal, hexadecimals}
use Rattle.text.proofs.Joined.{joined}

-- what parts a byte from those before it
abbrev blank_behind : List ℕ → List ℕ
blank_behind [] = []
blank_behind (x ∷ l) = 32 ∷ []

more : (l : List ℕ) (b : ℕ) → hexadecimals (l ++ b ∷ []) ≡ hexadecimals l ++ (blank_behind l ++ hexadecimal b)
unfolding hexadecimals
more [] b = refl
more (x ∷ []) b = refl
more (x ∷ y ∷ l) b = rw (more (y ∷ l) b)

blank-behind : (l : List ℕ) (i : ℕ) → i < length l → blank_behind (take i l) ≡ blank_at i
blank-behind [] i h = absurd (omega arith)
blank-behind (x ∷ l) zero h = refl
blank-behind (x ∷ l) (suc i) h = rw (ne_eqb (suc i) 0 (λ e. omega arith))

-- a loop that puts bytes so: a turn, and its end
module _ (t : List ℕ) (i : ℕ) {p q : List ℕ} {at k : ℕ} (a : Put p at (hexadecimals (take i t)) k q) where
  pub hex_next : {r s : List ℕ} {l m : ℕ} → i < length t → Put q k (blank_at i) l r
      → Put r l (hexadecimal (get_or t i 0)) m s → Put p at (hexadecimals (take (i + 1) t)) m s
  hex_next h b c =
      rw (add-one i, take-suc t i 0 h, more (take i t) (get_or t i 0), blank-behind t i h) (joined a (joined b c))

  pub hex_end : length t ≤ i → Put p at (hexadecimals t) k q
  hex_end h = rw (take_all i t h) at a

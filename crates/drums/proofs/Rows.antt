-- The table of drums holds the groups of R5.4: for each key value, the first row of that key has the key's group, and
-- a key without a row has none. One test computed over all 256 key values. Assumes nothing.
use mathlib.Core.Path.{◌≡◌, refl, sym, ap, ◌∙◌}
use mathlib.Core.Bool.{Bool, true, false}
use mathlib.Core.List.{List, [], ◌∷◌}
use mathlib.Core.Option as maybe
use Prim.Native.Nat.{ℕ, suc, ◌<◌}
use native.Mathlib.Omega.{arith}
use lib.Dec.{eqb, eqb→eq}
use Rattle.std.specs.Prelude.{if◌then◌else◌, Some, None}
use Rattle.std.specs.Option.{option_map}
use Rattle.loops.specs.Cases.{given}
use Rattle.loops.specs.Passes.{up_to, first_of}
use Rattle.loops.proofs.Fill.{at-up_to, length-up_to}
use Rattle.loops.proofs.Sweep.{at}
use Rattle.drums.specs.declared.Drum.{Drum}
use Rattle.drums.specs.Drums.{group_of, group}

abbrev row : ℕ → ℕ → Drum
row k g = record { key = k; group = g }

-- what stands where there is no row
abbrev pub none_row : Drum
none_row = row 0 0

abbrev pub rows : List Drum
rows =
    row 42 1
    ∷ row 44 1
    ∷ row 46 1
    ∷ row 71 2
    ∷ row 72 2
    ∷ row 73 3
    ∷ row 74 3
    ∷ row 78 4
    ∷ row 79 4
    ∷ row 80 5
    ∷ row 81 5
    ∷ []

abbrev pub is_key : ℕ → Drum → Bool
is_key k d = eqb d.key k

-- a row that was found, and the group of a key, as one number: 0 for none
abbrev row_number : maybe.Option Drum → ℕ
row_number maybe.none = 0
row_number (maybe.some d) = suc d.group

abbrev group_number : ℕ → ℕ
group_number n = if eqb n 0 then 0 else suc n

abbrev found : ℕ → ℕ
found k = row_number (first_of (is_key k) rows)

right : ℕ → ℕ → Bool
right k x = eqb x (group_number (group_of k))

pub rule : (k : ℕ) → k < 256 → row_number (first_of (is_key k) rows) ≡ group_number (group_of k)
unfolding up_to first_of right group_of
rule k h =
    let l = length-up_to found 256 in
    sym (at-up_to found 0 256 k h) ∙ eqb→eq _ _ (at right (up_to found 256) tt k (omega arith))

-- the same, where none is `None`
as_option : (o : maybe.Option Drum) (n : ℕ) → row_number o ≡ group_number n
    → option_map (λ d. d.group) (given o) ≡ (if eqb n 0 then None else Some n)
as_option maybe.none n e = go (eqb n 0) e
  where
    go : (b : Bool) → 0 ≡ (if b then 0 else suc n) → None ≡ (if b then None else Some n)
    go true e = refl
    go false e = absurd (omega arith)
as_option (maybe.some d) n e = go (eqb n 0) e
  where
    go : (b : Bool) → suc d.group ≡ (if b then 0 else suc n) → Some d.group ≡ (if b then None else Some n)
    go true e = absurd (omega arith)
    go false e = let h : d.group ≡ n = omega arith in ap Some h

-- the group of a row that is the first of its key, and of a key without one
pub of_row : (k : ℕ) (d : Drum) → k < 256 → maybe.some d ≡ first_of (is_key k) rows → Some d.group ≡ group k
of_row k d h e = as_option (maybe.some d) (group_of k) (ap row_number e ∙ rule k h)

pub of_none : (k : ℕ) → k < 256 → maybe.none ≡ first_of (is_key k) rows → None ≡ group k
of_none k h e = as_option maybe.none (group_of k) (ap row_number e ∙ rule k h)

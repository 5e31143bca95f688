-- The exclusive groups of a rhythm channel (R5.3, R5.4).
use Rattle.std.specs.Prelude.{ℕ, ◌+◌, Bool, false, ◌&&◌, ◌||◌, not, List, [], ◌∷◌, eqb, if◌then◌else◌, Option, Some, None}

-- R5.4: the groups
abbrev pub groups : List (List ℕ)
groups =
    (42 ∷ 44 ∷ 46 ∷ [])
    ∷ (71 ∷ 72 ∷ [])
    ∷ (73 ∷ 74 ∷ [])
    ∷ (78 ∷ 79 ∷ [])
    ∷ (80 ∷ 81 ∷ [])
    ∷ []

abbrev pub is_in : ℕ → List ℕ → Bool
is_in k [] = false
is_in k (j ∷ l) = eqb k j || is_in k l

-- the place of the first group that has the key, counted from n; 0 for none
abbrev pub place_from : ℕ → ℕ → List (List ℕ) → ℕ
place_from k n [] = 0
place_from k n (g ∷ l) = if is_in k g then n else place_from k (n + 1) l

-- the exclusive group of a key, 1 to 5; 0 if it has none
unfoldable pub group_of : ℕ → ℕ
group_of k = place_from k 1 groups

-- the same, as the code answers it
abbrev pub group : ℕ → Option ℕ
group k = if eqb (group_of k) 0 then None else Some (group_of k)

-- R5.3: key j is another one of the group of key k
unfoldable pub excludes : ℕ → ℕ → Bool
excludes k j = not (eqb j k) && (not (eqb (group_of k) 0) && eqb (group_of j) (group_of k))

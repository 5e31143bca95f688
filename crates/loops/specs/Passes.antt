-- One pass over a list, in each way that the code goes over one.
use Rattle.std.specs.Prelude.{ℕ, zero, suc, ◌+◌, Bool, List, [], ◌∷◌, ◌++◌, take, replicate, if◌then◌else◌}
use Rattle.std.proofs.Math.Option.{Option, some, none}
use Rattle.loops.specs.Cases.{bit}

-- f 0, f 1, .. f (n - 1): an array made by a rule
unfoldable pub up_to : {A : Type 0} → (ℕ → A) → ℕ → List A
up_to f zero = []
up_to f (suc n) = up_to f n ++ (f n ∷ [])

-- f 0 + f 1 + .. + f (n - 1)
unfoldable pub total : (ℕ → ℕ) → ℕ → ℕ
total f zero = 0
total f (suc n) = total f n + f n

-- the elements that pass, in their order
unfoldable pub filter_by : {A : Type 0} → (A → Bool) → List A → List A
filter_by p [] = []
filter_by p (x ∷ l) = if p x then x ∷ filter_by p l else filter_by p l

-- the first element that passes
unfoldable pub first_of : {A : Type 0} → (A → Bool) → List A → Option A
first_of p [] = none
first_of p (x ∷ l) = if p x then some x else first_of p l

-- how many elements pass
unfoldable pub count : {A : Type 0} → (A → Bool) → List A → ℕ
count p [] = 0
count p (x ∷ l) = bit (p x) + count p l

-- a mark, 1, for each number that passes and 0 for the others, among all that a byte may hold
unfoldable pub marks_of : (ℕ → Bool) → List ℕ
marks_of p = up_to (λ n. bit (p n)) 256

-- a list in an array of n places, with z in those that it leaves
unfoldable pub padded : {A : Type 0} → ℕ → A → List A → List A
padded n z l = take n (l ++ replicate n z)

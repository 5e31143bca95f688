-- Two tests that differ, a test as a number, and a number that may be missing.
use Rattle.std.specs.Prelude.{Bool, not, ◌&&◌, ◌||◌, ℕ, min, Option, Some, None}
use Rattle.std.specs.Int.{from_bool}
use Rattle.std.proofs.Math.Option.{Option as Maybe, some, none}

abbrev pub differ : Bool → Bool → Bool
differ a b = a && not b || not a && b

-- 1 where the test holds, 0 where not: what counting adds up
abbrev pub bit : Bool → ℕ
bit b = from_bool b

-- n, but at most m
abbrev pub at_most : ℕ → ℕ → ℕ
at_most m n = min n m

-- a number, 0 where there is none
abbrev pub or_zero : Maybe ℕ → ℕ
or_zero none = 0
or_zero (some n) = n

-- what is found, as code answers it
abbrev pub given : {A : Type 0} → Maybe A → Option A
given none = None
given (some x) = Some x

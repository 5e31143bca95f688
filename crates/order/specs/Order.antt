-- R14.3, R8.16: an order of the channels is all sixteen, each once.
-- Assumes nothing.
use Rattle.std.specs.Prelude.{ℕ, zero, suc, ◌+◌, Bool, true, ◌&&◌, List, eqb, length, Option, Some, None, if◌then◌else◌}
use Rattle.loops.specs.Passes.{count}

-- a test that passes at 0, 1, .. n - 1
unfoldable pub each : (ℕ → Bool) → ℕ → Bool
each p zero = true
each p (suc n) = each p n && p n

-- how often a channel stands in an order
abbrev pub times : List ℕ → ℕ → ℕ
times order c = count (λ x. eqb x c) order

-- R14.3: sixteen numbers, and each channel stands there once
unfoldable pub is_order : List ℕ → Bool
is_order order = eqb (length order) 16 && each (λ i. eqb (times order (i + 1)) 1) 16

-- the order that some bytes are
unfoldable pub order_of : List ℕ → Option (List ℕ)
order_of order = if is_order order then Some order else None

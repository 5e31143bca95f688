-- The laws of the table of weights: one test of each weight and its place, computed in one sweep over the 127 numbers.
-- Assumes nothing.
use Rattle.std.specs.Prelude.{if◌then◌else◌}
use mathlib.Core.Path.{◌≡◌, refl}
use mathlib.Core.Bool.{Bool}
use Prim.Native.Nat.{ℕ, suc, ◌+◌, ◌-◌, ◌*◌, ◌≤◌, ◌<◌}
use native.Mathlib.Omega.{arith}
use lib.Dec.{T, leb, ltb, leb→le, ltb→lt}
use lib.ListN.{length, get_or}
use borrow.Author.Tests.{lt-ltb}
use Rattle.loops.proofs.Sweep.{at, both, both_left, both_right}
use Rattle.gains.specs.Gains.{weights, weight, Weighs}

abbrev squares : ℕ → ℕ → ℕ
squares p w = w * w + get_or weights (126 - p) 0 * get_or weights (126 - p) 0

-- what a weight is below: the next one, behind the last what is above it
abbrev next : ℕ → ℕ
next p = if ltb p 126 then get_or weights (suc p) 0 else 32769

rises? : ℕ → ℕ → Bool
rises? p w = both (ltb w (next p)) (leb w 32768)

near? : ℕ → ℕ → Bool
near? p w = both (leb (squares p w) (1073741824 + 46342)) (leb 1073741824 (squares p w + 46342))

right : ℕ → ℕ → Bool
right p w = both (rises? p w) (near? p w)

swept : (p : ℕ) → p < 127 → T (right p (get_or weights p 0))
unfolding right rises? near?
swept p h = at right weights tt p h

risen : (p : ℕ) → p < 127 → T (rises? p (get_or weights p 0))
unfolding right
risen p h =
    let w = get_or weights p 0 in
    both_left (rises? p w) (near? p w) (swept p h)

nearby : (p : ℕ) → p < 127 → T (near? p (get_or weights p 0))
unfolding right
nearby p h =
    let w = get_or weights p 0 in
    both_right (rises? p w) (near? p w) (swept p h)

pub at_most_lem : (p : ℕ) → p < 127 → weight p ≤ 32768
unfolding weight rises?
at_most_lem p h = let w = get_or weights p 0 in leb→le w 32768 (both_right (ltb w (next p)) (leb w 32768) (risen p h))

below_next : (p : ℕ) → p < 126 → weight p < weight (suc p)
unfolding weight rises?
below_next p h =
    let w = get_or weights p 0 in
    let t = ltb→lt w (next p) (both_left (ltb w (next p)) (leb w 32768) (risen p (omega arith))) in
    rw (lt-ltb p 126 h) at t

over : (p : ℕ) → p < 127 → weight p * weight p + weight (126 - p) * weight (126 - p) ≤ 1073741824 + 46342
unfolding weight near?
over p h = let w = get_or weights p 0 in leb→le _ _ (both_left (leb (squares p w) (1073741824 + 46342)) _ (nearby p h))

under : (p : ℕ) → p < 127 → 1073741824 ≤ weight p * weight p + weight (126 - p) * weight (126 - p) + 46342
unfolding weight near?
under p h =
    let w = get_or weights p 0 in
    leb→le _ _ (both_right (leb (squares p w) (1073741824 + 46342)) _ (nearby p h))

pub as_many : length weights ≡ 127
as_many = refl

-- R12.3, R12.5 of the table
pub weighs : Weighs weight
unfolding weight
weighs = record { first = refl; last = refl; rises = below_next; not_over = over; not_under = under }

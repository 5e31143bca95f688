-- A loop that moves the elements that pass to the front of a blank array: at turn i the array holds those that pass
-- among the first i, and m is their number.
-- Assumes nothing.
use Rattle.std.specs.Prelude.{if◌then◌else◌}
use mathlib.Core.Path.{◌≡◌}
use mathlib.Core.Bool.{Bool, true, false}
use mathlib.Core.List.{List, [], ◌∷◌}
use Prim.Native.Nat.{ℕ, ◌+◌, ◌≤◌, ◌<◌}
use native.Mathlib.Omega.{arith}
use lib.ListN.{length, take, set, get_or, length-append}
use lib.Seq.{length-take-le}
use Rattle.loops.specs.Cases.{bit}
use Rattle.loops.specs.Passes.{filter_by, padded}
use Rattle.loops.proofs.Padded.{padded_push, padded-blank}
use Rattle.loops.proofs.Search.{filter_yes, filter_no, filter-length}

module _ {A : Type 0} (p : A → Bool) (z : A) (n : ℕ) (l : List A) where
  -- those that pass among the first i
  abbrev pub kept : ℕ → List A
  kept i = filter_by p (take i l)

  -- there are at most i
  pub kept_few : (i : ℕ) → i ≤ length l → length (kept i) ≤ i
  kept_few i h = let a = filter-length p (take i l) in let b = length-take-le i l h in omega arith

  -- a turn: the next element goes behind them if it passes, and a blank if not
  module _ (i m : ℕ) (out : List A) (b : Bool) (h : i < length l) (k : i < n)
      (t : p (get_or l i z) ≡ b) (e : m ≡ length (kept i)) (o : out ≡ padded n z (kept i)) where
    pub kept-count : m + bit b ≡ length (kept (i + 1))
    kept-count = go b t
      where
        go : (b : Bool) → p (get_or l i z) ≡ b → m + bit b ≡ length (kept (i + 1))
        go true t = rw (filter_yes p z l i h t) (let a = length-append (kept i) (get_or l i z ∷ []) in omega arith)
        go false t = rw (filter_no p z l i h t) (omega arith)

    pub kept_next : set out m (if b then get_or l i z else z) ≡ padded n z (kept (i + 1))
    kept_next = go b t
      where
        few : length (kept i) < n
        few = let a = kept_few i (omega arith) in omega arith

        go : (b : Bool) → p (get_or l i z) ≡ b → set out m (if b then get_or l i z else z) ≡ padded n z (kept (i + 1))
        go true t = rw (filter_yes p z l i h t, o, e) (padded_push z n (kept i) (get_or l i z) few)
        go false t = rw (filter_no p z l i h t, o, e) (padded-blank z n (kept i) few)

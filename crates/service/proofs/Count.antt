-- Counting in one pass: each generator that is busy adds one to the count of its channel.
-- Assumes nothing.
use Prim.Native.Nat.{ℕ, ◌+◌, ◌≤◌, ◌<◌}
use mathlib.Core.Path.{◌≡◌, refl, sym, ◌∙◌}
use mathlib.Core.Bool.{Bool, true, false, ◌&&◌}
use mathlib.Core.List.{List}
use native.Mathlib.Omega.{arith}
use native.Mathlib.Nat.{add-zero}
use borrow.Author.Tests.{ltb-true, ltb-false, eqb-true, eqb-false, eq-eqb, ne_eqb}
use lib.Dec.{eqb, ltb}
use lib.ListN.{length, get_or, set, replicate, length-set}
use lib.Seq.{get_or-set_same, get_or-set_other}
use Rattle.loops.specs.Cases.{bit}
use Rattle.loops.specs.Passes.{up_to, total}
use Rattle.loops.proofs.Fill.{up_to_list}
use Rattle.loops.proofs.Padded.{blank}
use Rattle.loops.proofs.Tests.{and_left, and_right}
use Rattle.loops.proofs.Totals.{total-next, total_bits}
use Rattle.generators.specs.declared.Generators.{Generators}
use Rattle.generators.specs.Generators.{generator, is_busy, is_busy_on}
use Rattle.candidates.specs.Candidates.{busy_count}

-- generator h, by the numbers in the record, is busy on channel c
abbrev busy_at : List ℕ → List ℕ → ℕ → ℕ → Bool
busy_at states channels c h = is_busy_on c (generator (get_or states h 0) (get_or channels h 0) 0)

-- the counts of the first g generators
abbrev pub Counted : List ℕ → List ℕ → ℕ → List ℕ → Type 0
Counted states channels g out =
    (length out ≡ 17) × ((c : ℕ) → c < 17 → get_or out c 0 ≡ total (λ h. bit (busy_at states channels c h)) g)

-- a count among 64 generators fits a byte
pub fits_one : (n g : ℕ) → n ≤ g → g < 64 → n + 1 < 256
fits_one n g h k = omega arith

-- a generator that is counted has a channel with a place
pub counted-small : (state c : ℕ) → is_busy (generator state 0 0) && ltb c 17 ≡ true → c < 17
counted-small state c t = ltb-true c 17 (and_right (is_busy (generator state 0 0)) _ t)

pub none_counted : (states channels : List ℕ) → Counted states channels 0 (replicate 17 0)
unfolding total
none_counted states channels = (refl, λ c h. blank 0 17 c)

module _ (states channels : List ℕ) (g : ℕ) (out : List ℕ) (now : Counted states channels g out) where
  -- no count is larger than the number of generators
  pub few : (c : ℕ) → c < 17 → get_or out c 0 ≤ g
  few c h = rw (now.1 c h) (total_bits (λ (i : ℕ). busy_at states channels c i) g)

  -- what the next generator adds to the count of channel d
  adds : (d n : ℕ) → d < 17 → n ≡ bit (busy_at states channels d g)
      → get_or out d 0 + n ≡ total (λ (i : ℕ). bit (busy_at states channels d i)) (g + 1)
  adds d n h e = total-next (λ (i : ℕ). bit (busy_at states channels d i)) g (get_or out d 0) n (now.1 d h) e

  module _ (c : ℕ) (on : get_or channels g 0 ≡ c) where
    here : (d : ℕ) (b : Bool) → is_busy (generator (get_or states g 0) 0 0) ≡ b
        → eqb c d ≡ true → bit b ≡ bit (busy_at states channels d g)
    here d true e t = rw (on, e, t) refl
    here d false e t = rw e refl

    elsewhere : (d : ℕ) (b : Bool) → is_busy (generator (get_or states g 0) 0 0) ≡ b
        → eqb c d ≡ false → 0 ≡ bit (busy_at states channels d g)
    elsewhere d true e t = rw (on, e, t) refl
    elsewhere d false e t = rw e refl

    -- it is busy on a channel that is counted: the count of that channel is one more, and no other changes
    pub counted_more : is_busy (generator (get_or states g 0) 0 0) && ltb c 17 ≡ true
        → Counted states channels (g + 1) (set out c (get_or out c 0 + 1))
    counted_more t = (length-set out c _ ∙ now.0, λ d h. go d h (eqb c d) refl)
      where
        busy : is_busy (generator (get_or states g 0) 0 0) ≡ true
        busy = and_left _ _ t

        small : c < 17
        small = counted-small (get_or states g 0) c t

        go : (d : ℕ) → d < 17 → (e : Bool) → eqb c d ≡ e
            → get_or (set out c (get_or out c 0 + 1)) d 0 ≡ total (λ (i : ℕ). bit (busy_at states channels d i)) (g + 1)
        go d h true e =
            let q = eqb-true c d e in
            rw (← q, get_or-set_same out c (get_or out c 0 + 1) 0 (rw now.0 small))
            (adds c 1 small (here c true busy (eq-eqb c c refl)))
        go d h false e =
            rw (get_or-set_other out c d (get_or out c 0 + 1) 0 (λ q. eqb-false c d e (sym q)))
            (sym (add-zero (get_or out d 0)) ∙ adds d 0 h (elsewhere d true busy e))

    -- it is not: no count changes
    pub counted_same : is_busy (generator (get_or states g 0) 0 0) && ltb c 17 ≡ false
        → Counted states channels (g + 1) out
    counted_same t = (
      now.0,
      λ d h. sym (add-zero (get_or out d 0)) ∙ adds d 0 h (go d h (is_busy (generator (get_or states g 0) 0 0)) refl t),
    )
      where
        go : (d : ℕ) → d < 17 → (b : Bool) → is_busy (generator (get_or states g 0) 0 0) ≡ b
            → b && ltb c 17 ≡ false → 0 ≡ bit (busy_at states channels d g)
        go d h true e f =
            let large = ltb-false c 17 f in
            elsewhere d true e (ne_eqb c d (λ q. absurd (omega arith)))
        go d h false e f = rw e refl

pub counted_all : (s : Generators) (g : ℕ) (out : List ℕ) → g ≡ 64
    → Counted s.state s.channel g out → out ≡ up_to (busy_count s) 17
unfolding busy_count
counted_all s g out e now = sym (up_to_list (busy_count s) 0 out 17 now.0 (λ c h. sym (rw e at (now.1 c h))))

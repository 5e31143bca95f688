-- Each generator after an act, by its number: beyond the 64 places all are idle, with channel 0 and key 0, before and
-- after.
-- Assumes nothing.
use Rattle.std.specs.Prelude.{if◌then◌else◌}
use mathlib.Core.Path.{◌≡◌, refl, sym, ap, ◌∙◌}
use mathlib.Core.Bool.{Bool, true, false}
use Prim.Native.Nat.{ℕ, ◌≤◌, ◌<◌}
use native.Mathlib.Omega.{arith}
use borrow.Author.Tests.{lt-ltb, ltb-true, ltb-false, eqb-true, eqb-false}
use lib.Dec.{eqb, ltb}
use lib.ListN.{length, get_or, set, get_or-eq_default}
use lib.Seq.{get_or-set_same, get_or-set_other}
use Rattle.loops.specs.Passes.{up_to}
use Rattle.loops.proofs.Fill.{at-up_to, length-up_to}
use Rattle.loops.proofs.Tests.{impossible}
use Rattle.generators.specs.declared.Generators.{Generators}
use Rattle.generators.specs.Generators.{Generator, generator, at, is_idle, is_busy, assigned}
use Rattle.releases.specs.Releases.{with_states}
use Rattle.silence.specs.declared.Leaving.{Leaving}
use Rattle.silence.specs.Silence.{leaves, goes, silenced}

-- the arrays have 64 places
pub record Sized (s : Generators) : Type 0 where
  pub states : length s.state ≡ 64
  pub channels : length s.channel ≡ 64
  pub keys : length s.key ≡ 64

pub beyond : (s : Generators) → Sized s → (g : ℕ) → 64 ≤ g → at s g ≡ generator 0 0 0
beyond s z g h =
    let a = z.states in
    let b = z.channels in
    let d = z.keys in
    rw (
      get_or-eq_default s.state 0 {n = g} (omega arith),
      get_or-eq_default s.channel 0 {n = g} (omega arith),
      get_or-eq_default s.key 0 {n = g} (omega arith),
    )

-- what sounds has a place
pub sounding_place : (s : Generators) → Sized s → (g : ℕ) → is_idle (at s g) ≡ false → g < 64
sounding_place s z g h = go (ltb g 64) refl
  where
    go : (b : Bool) → ltb g 64 ≡ b → g < 64
    go true t = ltb-true g 64 t
    go false t =
        let q : ◌≡◌ {A = Bool} true false = sym (ap is_idle (beyond s z g (ltb-false g 64 t))) ∙ h in
        impossible (cc)

-- ---- the busy generators that pass go to state n

module _ (s : Generators) (z : Sized s) (t : Generator → Bool)
    (n : ℕ) (busy : (x : Generator) → t x ≡ true → is_busy x ≡ true) where
  abbrev pub restated : Generators
  restated = with_states s (up_to (λ g. if t (at s g) then n else (at s g).state) 64)

  pub restated_at : (g : ℕ)
      → at restated g ≡ (if t (at s g) then generator n (at s g).channel (at s g).key else at s g)
  restated_at g = go (ltb g 64) refl (t (at s g)) refl
    where
      rule : ℕ → ℕ
      rule j = if t (at s j) then n else (at s j).state

      in_place : (b : Bool) → t (at s g) ≡ b
          → generator (if b then n else (at s g).state) (at s g).channel (at s g).key
          ≡ (if b then generator n (at s g).channel (at s g).key else at s g)
      in_place true e = refl
      in_place false e = refl

      go : (k : Bool) → ltb g 64 ≡ k → (b : Bool) → t (at s g) ≡ b
          → generator (get_or (up_to rule 64) g 0) (at s g).channel (at s g).key
          ≡ (if b then generator n (at s g).channel (at s g).key else at s g)
      go true k b e = rw (at-up_to rule 0 64 g (ltb-true g 64 k), e) (in_place b e)
      go false k true e =
          let q : ◌≡◌ {A = Bool} false true = sym (ap is_busy (beyond s z g (ltb-false g 64 k))) ∙ busy (at s g) e in
          impossible (cc)
      go false k false e =
          let l = length-up_to rule 64 in
          let m = z.states in
          let h : 64 ≤ g = ltb-false g 64 k in
          rw (
            get_or-eq_default (up_to rule 64) 0 {n = g} (omega arith),
            get_or-eq_default s.state 0 {n = g} (omega arith),
          )

-- ---- generators fall silent

pub silenced-at : (l : Leaving) (s : Generators) → Sized s → (g : ℕ)
    → at (silenced l s) g ≡ (if goes l s g then generator 0 0 0 else at s g)
unfolding silenced leaves
silenced-at l s z g = go (ltb g 64) refl (goes l s g) refl
  where
    rule : (Generator → ℕ) → ℕ → ℕ
    rule f j = if goes l s j then 0 else f (at s j)

    in_place : (b : Bool)
        → generator (if b then 0 else (at s g).state) (if b then 0 else (at s g).channel)
        (if b then 0 else (at s g).key)
        ≡ (if b then generator 0 0 0 else at s g)
    in_place true = refl
    in_place false = refl

    out : (f : Generator → ℕ) → 64 ≤ g → get_or (up_to (rule f) 64) g 0 ≡ 0
    out f h = let n = length-up_to (rule f) 64 in get_or-eq_default (up_to (rule f) 64) 0 {n = g} (omega arith)

    either : (b : Bool) → generator 0 0 0 ≡ (if b then generator 0 0 0 else generator 0 0 0)
    either true = refl
    either false = refl

    go : (k : Bool) → ltb g 64 ≡ k → (b : Bool) → goes l s g ≡ b
        → generator (get_or (up_to (rule (λ x. x.state)) 64) g 0) (get_or (up_to (rule (λ x. x.channel)) 64) g 0)
        (get_or (up_to (rule (λ x. x.key)) 64) g 0) ≡ (if b then generator 0 0 0 else at s g)
    go true k b e =
        let h = ltb-true g 64 k in
        rw (
          at-up_to (rule (λ x. x.state)) 0 64 g h,
          at-up_to (rule (λ x. x.channel)) 0 64 g h,
          at-up_to (rule (λ x. x.key)) 0 64 g h,
          e,
        ) (in_place b)
    go false k b e =
        let h : 64 ≤ g = ltb-false g 64 k in
        rw (out (λ x. x.state) h, out (λ x. x.channel) h, out (λ x. x.key) h, beyond s z g h) (either b)

-- ---- a generator is assigned

pub assigned-at : (g c k : ℕ) (s : Generators) → Sized s → g < 64 → (j : ℕ)
    → at (assigned g c k s) j ≡ (if eqb j g then generator 1 c k else at s j)
unfolding assigned
assigned-at g c k s z h j = rw (lt-ltb g 64 h) (go (eqb j g) refl)
  where
    go : (b : Bool) → eqb j g ≡ b
        → generator (get_or (set s.state g 1) j 0) (get_or (set s.channel g c) j 0) (get_or (set s.key g k) j 0)
        ≡ (if b then generator 1 c k else at s j)
    go true e =
        let q = eqb-true j g e in
        let a = z.states in
        let b = z.channels in
        let d = z.keys in
        rw (
          q,
          get_or-set_same s.state g 1 0 (omega arith),
          get_or-set_same s.channel g c 0 (omega arith),
          get_or-set_same s.key g k 0 (omega arith),
        )
    go false e =
        let n = eqb-false j g e in
        rw (
          get_or-set_other s.state g j 1 0 n,
          get_or-set_other s.channel g j c 0 n,
          get_or-set_other s.key g j k 0 n,
        )

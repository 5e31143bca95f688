-- What holds of the generators of a device of polyphony p at all times: the order of age is well formed, each
-- generator is in one of the four states, and none from p on sounds. Each act keeps it.
-- Assumes nothing.
use Rattle.std.specs.Prelude.{if◌then◌else◌}
use mathlib.Core.Path.{◌≡◌, refl, sym, ap, ◌∙◌, subst}
use mathlib.Core.Bool.{Bool, true, false, true≢false}
use Prim.Native.Nat.{ℕ, ◌≤◌, ◌<◌}
use native.Mathlib.Omega.{arith}
use borrow.Author.Tests.{eqb-true, ne_eqb}
use lib.Dec.{eqb}
use Rattle.loops.proofs.Padded.{blank}
use Rattle.generators.specs.declared.Generators.{Generators}
use Rattle.generators.specs.Generators.{Generator, generator, at, is_idle, is_busy, assigned, silent}
use Rattle.releases.specs.declared.Change.{Change}
use Rattle.releases.specs.declared.Change.TheVariants.{ReleaseNote, ReleaseChannel, NoteOff, AllNotesOff, PedalUp}
use Rattle.releases.specs.Releases.{changes, key_up, state_after, changed}
use Rattle.silence.specs.declared.Leaving.{Leaving}
use Rattle.silence.specs.declared.Leaving.TheVariants.{Group}
use Rattle.silence.specs.Silence.{goes, silenced}
use Rattle.allocation.specs.Allocation.{cleared}
use Rattle.age_law.proofs.At.{restated, restated_at, silenced-at, assigned-at}
use Rattle.age_law.proofs.Assigned.{Ordered, change_busy, after_sounds, restated_ordered}
use Rattle.age_law.proofs.Assigned.{silenced_ordered, assigned_ordered, silent_ordered}

pub record Playable (p : ℕ) (s : Generators) : Type 0 where
  pub few : p ≤ 64
  pub ordered : Ordered s
  pub states : (g : ℕ) → (at s g).state ≤ 3
  pub above : (g : ℕ) → p ≤ g → is_idle (at s g) ≡ true

-- an idle generator isn't busy
pub idle_busy : (x : Generator) → is_idle x ≡ true → is_busy x ≡ false
idle_busy x e = rw (eqb-true x.state 0 e)

of_states : {x y : Generator} → x ≡ y → y.state ≤ 3 → x.state ≤ 3
of_states e h = subst (λ (z : Generator). z.state ≤ 3) (sym e) h

pub playable_restated : (p : ℕ) (s : Generators) (o : Playable p s) (t : Generator → Bool)
    (n : ℕ) (busy : (x : Generator) → t x ≡ true → is_busy x ≡ true) → eqb n 0 ≡ false → n ≤ 3
    → Playable p (restated s o.ordered.sized t n busy)
playable_restated p s o t n busy z h =
    record {
      few = o.few;
      ordered = restated_ordered s o.ordered t n busy z;
      states = λ g. of_states (restated_at s o.ordered.sized t n busy g) (state g (t (at s g)));
      above = λ g k. ap is_idle (restated_at s o.ordered.sized t n busy g) ∙ idle g k (t (at s g)) refl;
    }
  where
    state : (g : ℕ) (b : Bool) → (if b then generator n (at s g).channel (at s g).key else at s g).state ≤ 3
    state g true = h
    state g false = o.states g

    idle : (g : ℕ) → p ≤ g → (b : Bool) → t (at s g) ≡ b
        → is_idle (if b then generator n (at s g).channel (at s g).key else at s g) ≡ true
    idle g k true e = absurd (true≢false (sym (busy (at s g) e) ∙ idle_busy (at s g) (o.above g k)))
    idle g k false e = o.above g k

up_state : (p : Bool) → key_up p ≤ 3
up_state true = omega arith
up_state false = omega arith

after-state : (h : Change) → state_after h ≤ 3
unfolding state_after
after-state (ReleaseNote c k) = omega arith
after-state (ReleaseChannel c) = omega arith
after-state (NoteOff pedal c k) = up_state pedal
after-state (AllNotesOff pedal c) = up_state pedal
after-state (PedalUp c) = omega arith

pub playable_changed : (h : Change) (p : ℕ) (s : Generators) → Playable p s → Playable p (changed h s)
unfolding changed
playable_changed h p s o =
    playable_restated p s o (changes h) (state_after h) (change_busy h) (after_sounds h) (after-state h)

pub playable_silenced : (l : Leaving) (p : ℕ) (s : Generators) → Playable p s → Playable p (silenced l s)
playable_silenced l p s o =
    record {
      few = o.few;
      ordered = silenced_ordered l s o.ordered;
      states = λ g. of_states (silenced-at l s o.ordered.sized g) (state g (goes l s g));
      above = λ g k. ap is_idle (silenced-at l s o.ordered.sized g) ∙ idle g k (goes l s g);
    }
  where
    state : (g : ℕ) (b : Bool) → (if b then generator 0 0 0 else at s g).state ≤ 3
    state g true = omega arith
    state g false = o.states g

    idle : (g : ℕ) → p ≤ g → (b : Bool) → is_idle (if b then generator 0 0 0 else at s g) ≡ true
    idle g k true = refl
    idle g k false = o.above g k

pub playable_assigned : (g c k p : ℕ) (s : Generators) → Playable p s → g < p → Playable p (assigned g c k s)
playable_assigned g c k p s o h =
    let z = o.few in
    record {
      few = o.few;
      ordered = assigned_ordered s o.ordered g c k (omega arith);
      states = λ j. of_states (assigned-at g c k s o.ordered.sized (omega arith) j) (state j (eqb j g));
      above = λ j l. ap is_idle (assigned-at g c k s o.ordered.sized (omega arith) j)
          ∙ rw (ne_eqb j g (λ (e : j ≡ g). omega arith)) (o.above j l);
    }
  where
    state : (j : ℕ) (b : Bool) → (if b then generator 1 c k else at s j).state ≤ 3
    state j true = omega arith
    state j false = o.states j

pub playable_silent : (p : ℕ) → p ≤ 64 → Playable p silent
unfolding silent
playable_silent p h =
    record {
      few = h;
      ordered = silent_ordered;
      states = λ g. rw (blank {A = ℕ} 0 64 g) (omega arith);
      above = λ g k. rw (blank {A = ℕ} 0 64 g);
    }

pub playable_cleared : (r : Bool) (c k p : ℕ) (s : Generators) → Playable p s → Playable p (cleared r c k s)
unfolding cleared
playable_cleared true c k p s o =
    playable_silenced (Group c k) p (changed (ReleaseNote c k) s) (playable_changed (ReleaseNote c k) p s o)
playable_cleared false c k p s o = playable_changed (ReleaseNote c k) p s o

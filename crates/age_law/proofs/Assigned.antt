-- The order in the record is the order of assignment. Invariant over a history: each sounding generator stands in the
-- order once and no other does, so that there is always room for one more; and the order is that of the last
-- assignments.
-- Assumes nothing.
use Rattle.std.specs.Prelude.{if◌then◌else◌}
use mathlib.Core.Path.{◌≡◌, refl, sym, ap, ◌∙◌}
use mathlib.Core.Bool.{Bool, true, false, not, ◌||◌}
use mathlib.Core.List.{List, [], ◌∷◌, ◌++◌}
use Prim.Native.Nat.{ℕ, ◌+◌, ◌≤◌, ◌<◌}
use native.Mathlib.Omega.{arith}
use borrow.Author.Tests.{lt-ltb, eqb-true, eqb-false, eq-eqb, ne_eqb}
use lib.Dec.{eqb}
use lib.ListN.{length, set, length-append, length-set}
use lib.Seq.{get_or-set_same, get_or-set_other}
use Rattle.loops.specs.Cases.{bit}
use Rattle.loops.specs.Passes.{total, filter_by, count, padded}
use Rattle.loops.proofs.Fill.{length-up_to}
use Rattle.loops.proofs.Tests.{and_left, impossible}
use Rattle.loops.proofs.Totals.{total-same, total_bits}
use Rattle.loops.proofs.Search.{filter-append, filter-filter, filter_same, filter-length}
use Rattle.loops.proofs.Occurs.{occurs, occurs_filter, occurs_snoc, length-total, total_hole}
use Rattle.ages.specs.Ages.{oldest_first, ages_of, newest, other_than}
use Rattle.loops.proofs.Padded.{blank}
use Rattle.ages.proofs.Orders.{order_of_lem}
use Rattle.generators.specs.declared.Generators.{Generators}
use Rattle.generators.specs.Generators.{Generator, generator, at, is_sounding}
use Rattle.generators.specs.Generators.{is_held, is_sustained, is_on, assigned, silent}
use Rattle.releases.specs.declared.Change.{Change}
use Rattle.releases.specs.declared.Change.TheVariants.{ReleaseNote, ReleaseChannel, NoteOff, AllNotesOff, PedalUp}
use Rattle.releases.specs.Releases.{changes, key_up, state_after, changed}
use Rattle.silence.specs.declared.Leaving.{Leaving}
use Rattle.silence.specs.Silence.{goes, silenced}
use Rattle.age_law.specs.AgeLaw.{Act, assign, change, silence, after, by_last, ByAssignment}
use Rattle.age_law.proofs.At.{Sized, beyond, restated, restated_at, silenced-at}

abbrev sounds : Generators → ℕ → Bool
sounds s g = is_sounding (at s g)

abbrev order : Generators → List ℕ
order s = oldest_first s.ages

-- the record is well formed: its arrays have 64 places, and the order has each sounding generator once and no other
pub record Ordered (s : Generators) : Type 0 where
  pub sized : Sized s
  pub once : (g : ℕ) → occurs g (order s) ≡ bit (sounds s g)

-- beyond the 64 places nothing sounds
mute : (s : Generators) → Sized s → (g : ℕ) → 64 ≤ g → sounds s g ≡ false
mute s z g h = ap is_sounding (beyond s z g h)

-- the order is as long as there are sounding generators
pub order_length : (s : Generators) → Ordered s → total (λ g. bit (sounds s g)) 64 ≡ length (order s)
order_length s o =
    total-same (λ (g : ℕ). bit (sounds s g)) (λ (g : ℕ). occurs g (order s)) 64 (λ g k. sym (o.once g))
    ∙ length-total 64 (order s) (λ h k. o.once h ∙ ap bit (mute s o.sized h k))

pub order_few : (s : Generators) → Ordered s → length (order s) ≤ 64
order_few s o = let e = order_length s o in let k = total_bits (sounds s) 64 in omega arith

-- ---- a generator is assigned

module _ (s : Generators) (o : Ordered s) (g c k : ℕ) (h : g < 64) where
  abbrev next : Generators
  next = record {
    state = set s.state g 1;
    channel = set s.channel g c;
    key = set s.key g k;
    ages = newest s.ages g;
  }

  assigned-next : assigned g c k s ≡ next
  unfolding assigned
  assigned-next = rw (lt-ltb g 64 h)

  sounds-other : (x : ℕ) → (x ≡ g → ⊥) → sounds next x ≡ sounds s x
  sounds-other x n = rw (get_or-set_other s.state g x 1 0 n)

  sounds-new : sounds next g ≡ true
  sounds-new = let l = o.sized.states in rw (get_or-set_same s.state g 1 0 (omega arith))

  -- what sounds besides g
  both : (x : ℕ) → (if other_than g x then sounds next x else false) ≡ (if other_than g x then sounds s x else false)
  both x = go (eqb x g) refl
    where
      go : (b : Bool) → eqb x g ≡ b → (if not b then sounds next x else false) ≡ (if not b then sounds s x else false)
      go true e = refl
      go false e = sounds-other x (eqb-false x g e)

  others : List ℕ
  others = filter_by (other_than g) (order s)

  others-once : (x : ℕ) → occurs x others ≡ bit (if other_than g x then sounds s x else false)
  unfolding others
  others-once x = occurs_filter (other_than g) x (order s) ∙ go (other_than g x)
    where
      go : (b : Bool) → (if b then occurs x (order s) else 0) ≡ bit (if b then sounds s x else false)
      go true = o.once x
      go false = refl

  room : length others < 64
  room =
      let e = length-total 64 others (λ x m. others-once x ∙ out x m) in
      let t = total-same (λ (x : ℕ). occurs x others)
      (λ (x : ℕ). bit (if other_than g x then sounds s x else false)) 64 (λ x m. others-once x) in
      let b = total_hole (λ (x : ℕ). if other_than g x then sounds s x else false) 64 g h (rw (eq-eqb g g refl)) in
      omega arith
    where
      out : (x : ℕ) → 64 ≤ x → bit (if other_than g x then sounds s x else false) ≡ 0
      out x m = rw (mute s o.sized x m) (go (other_than g x))
        where
          go : (b : Bool) → bit (if b then false else false) ≡ 0
          go true = refl
          go false = refl

  -- g stands behind the others
  next-order : order next ≡ others ++ (g ∷ [])
  unfolding newest others
  next-order =
      let r = room in
      let a = length-append others (g ∷ []) in
      rw (lt-ltb g 64 h) (order_of_lem (others ++ (g ∷ [])) (omega arith))

  pub assigned_order : order (assigned g c k s) ≡ filter_by (other_than g) (order s) ++ (g ∷ [])
  unfolding others
  assigned_order = rw assigned-next next-order

  pub assigned_new : sounds (assigned g c k s) g ≡ true
  assigned_new = rw assigned-next sounds-new

  pub assigned_both : (x : ℕ)
      → (if other_than g x then sounds (assigned g c k s) x else false) ≡ (if other_than g x then sounds s x else false)
  assigned_both x = rw assigned-next (both x)

  pub assigned_ordered : Ordered (assigned g c k s)
  assigned_ordered =
      rw assigned-next
      (record {
        sized = record {
          states = length-set s.state g 1 ∙ o.sized.states;
          channels = length-set s.channel g c ∙ o.sized.channels;
          keys = length-set s.key g k ∙ o.sized.keys;
        };
        once = once;
      })
    where
      once : (x : ℕ) → occurs x (order next) ≡ bit (sounds next x)
      once x = rw next-order (occurs_snoc x g others ∙ rw (others-once x) (go (eqb x g) refl))
        where
          go : (b : Bool) → eqb x g ≡ b
              → bit (if not b then sounds s x else false) + bit (eqb g x) ≡ bit (sounds next x)
          go true e = let q = eqb-true x g e in rw (q, eq-eqb g g refl, sounds-new)
          go false e =
              let n = eqb-false x g e in
              rw (ne_eqb g x (λ (q : g ≡ x). n (sym q)), sounds-other x n) (omega arith)

-- ---- states change, and what sounds goes on sounding

-- what a change means is held or sustained, so it sounds
unidle : (x : Generator) (b : Bool) → eqb x.state 0 ≡ b → (is_held x || is_sustained x) ≡ true → not b ≡ true
unidle x true t e =
    let q : x.state ≡ 0 = eqb-true x.state 0 t in
    let z : ◌≡◌ {A = Bool} false true = rw q at e in
    impossible (cc)
unidle x false t e = refl

left_holds : (a b : Bool) → a ≡ true → (a || b) ≡ true
left_holds a b e = rw e

right-holds : (a b : Bool) → b ≡ true → (a || b) ≡ true
right-holds true b e = refl
right-holds false b e = e

pub change_busy : (h : Change) (x : Generator) → changes h x ≡ true → (is_held x || is_sustained x) ≡ true
unfolding changes
change_busy (ReleaseNote c k) x e = and_left _ (is_on c x) (and_left _ (eqb x.key k) e)
change_busy (ReleaseChannel c) x e = and_left _ (is_on c x) e
change_busy (NoteOff pedal c k) x e = left_holds (is_held x) _ (and_left _ (is_on c x) (and_left _ (eqb x.key k) e))
change_busy (AllNotesOff pedal c) x e = left_holds (is_held x) _ (and_left _ (is_on c x) e)
change_busy (PedalUp c) x e = right-holds (is_held x) (is_sustained x) (and_left _ (is_on c x) e)

-- the state that a change leads to is not idle
up_sounds : (pedal : Bool) → eqb (key_up pedal) 0 ≡ false
up_sounds true = refl
up_sounds false = refl

pub after_sounds : (h : Change) → eqb (state_after h) 0 ≡ false
unfolding state_after
after_sounds (ReleaseNote c k) = refl
after_sounds (ReleaseChannel c) = refl
after_sounds (NoteOff pedal c k) = up_sounds pedal
after_sounds (AllNotesOff pedal c) = up_sounds pedal
after_sounds (PedalUp c) = refl

-- busy generators that pass go to a state that sounds
module _ (s : Generators) (o : Ordered s) (t : Generator → Bool) (n : ℕ)
    (busy : (x : Generator) → t x ≡ true → (is_held x || is_sustained x) ≡ true) (k : eqb n 0 ≡ false) where
  pub restated_sounds : (x : ℕ) → sounds (restated s o.sized t n busy) x ≡ sounds s x
  restated_sounds x = ap is_sounding (restated_at s o.sized t n busy x) ∙ go (t (at s x)) refl
    where
      go : (b : Bool) → t (at s x) ≡ b
          → is_sounding (if b then generator n (at s x).channel (at s x).key else at s x) ≡ sounds s x
      go true e = rw k (sym (unidle (at s x) (eqb (at s x).state 0) refl (busy (at s x) e)))
      go false e = refl

  pub restated_ordered : Ordered (restated s o.sized t n busy)
  restated_ordered =
      record {
        sized = record { states = length-up_to _ 64; channels = o.sized.channels; keys = o.sized.keys };
        once = λ g. o.once g ∙ ap bit (sym (restated_sounds g));
      }

pub changed_ordered : (h : Change) (s : Generators) → Ordered s → Ordered (changed h s)
unfolding changed
changed_ordered h s o = restated_ordered s o (changes h) (state_after h) (change_busy h) (after_sounds h)

-- ---- generators fall silent

module _ (l : Leaving) (s : Generators) (o : Ordered s) where
  pub silenced_sounds : (x : ℕ) → sounds (silenced l s) x ≡ (if not (goes l s x) then sounds s x else false)
  silenced_sounds x = ap is_sounding (silenced-at l s o.sized x) ∙ go (goes l s x)
    where
      go : (b : Bool) → is_sounding (if b then generator 0 0 0 else at s x) ≡ (if not b then sounds s x else false)
      go true = refl
      go false = refl

  pub silenced_order : order (silenced l s) ≡ filter_by (λ g. not (goes l s g)) (order s)
  unfolding silenced
  silenced_order =
      let a = filter-length (λ (g : ℕ). not (goes l s g)) (order s) in
      let b = order_few s o in
      order_of_lem (filter_by (λ g. not (goes l s g)) (order s)) (omega arith)

  silenced-sized : Sized (silenced l s)
  unfolding silenced
  silenced-sized = record { states = length-up_to _ 64; channels = length-up_to _ 64; keys = length-up_to _ 64 }

  pub silenced_ordered : Ordered (silenced l s)
  silenced_ordered =
      record { sized = silenced-sized; once = once }
    where
      once : (x : ℕ) → occurs x (order (silenced l s)) ≡ bit (sounds (silenced l s) x)
      once x = rw (silenced_order, silenced_sounds x)
          (occurs_filter (λ (g : ℕ). not (goes l s g)) x (order s) ∙ go (not (goes l s x)))
        where
          go : (b : Bool) → (if b then occurs x (order s) else 0) ≡ bit (if b then sounds s x else false)
          go true = o.once x
          go false = refl

-- ---- any history

pub silent_ordered : Ordered silent
unfolding silent ages_of count
silent_ordered =
    record { sized = record { states = refl; channels = refl; keys = refl }; once = λ g. rw (blank {A = ℕ} 0 64 g) }

-- each sounding generator stands in the order once, and no other does
pub ordered : (l : List Act) → Ordered (after l)
ordered [] = silent_ordered
ordered (assign g c k h ∷ l) = assigned_ordered (after l) (ordered l) g c k h
ordered (change h ∷ l) = changed_ordered h (after l) (ordered l)
ordered (silence x ∷ l) = silenced_ordered x (after l) (ordered l)

swap : (a b : Bool) → (if a then b else false) ≡ (if b then a else false)
swap true true = refl
swap true false = refl
swap false true = refl
swap false false = refl

-- the record's order is that of a list from which those that no longer sound are left out
abbrev pub Follows : Generators → List ℕ → Type 0
Follows s l = order s ≡ filter_by (sounds s) l

-- an assigned generator goes last in both
pub follows_assigned : (s : Generators) (o : Ordered s) (g c k : ℕ) → g < 64 → (l : List ℕ)
    → Follows s l → Follows (assigned g c k s) (filter_by (other_than g) l ++ (g ∷ []))
unfolding filter_by
follows_assigned s o g c k h l f =
    let p : ℕ → Bool = λ x. if other_than g x then sounds s x else false in
    assigned_order s o g c k h
    ∙ ap (λ (m : List ℕ). filter_by (other_than g) m ++ (g ∷ [])) f
    ∙ ap (λ (m : List ℕ). m ++ (g ∷ []))
    (filter-filter (other_than g) (sounds s) p l (λ x. swap (sounds s x) (other_than g x))
    ∙ sym (filter-filter (sounds (assigned g c k s)) (other_than g) p l (assigned_both s o g c k h)))
    ∙ ap (λ (m : List ℕ). filter_by (sounds (assigned g c k s)) (filter_by (other_than g) l) ++ m)
    (sym (rw (assigned_new s o g c k h)))
    ∙ sym (filter-append (sounds (assigned g c k s)) (filter_by (other_than g) l) (g ∷ []))

pub follows_restated : (s : Generators) (o : Ordered s) (t : Generator → Bool) (n : ℕ)
    (busy : (x : Generator) → t x ≡ true → (is_held x || is_sustained x) ≡ true) (k : eqb n 0 ≡ false)
    (l : List ℕ) → Follows s l → Follows (restated s o.sized t n busy) l
follows_restated s o t n busy k l f =
    f ∙ filter_same (sounds s) (sounds (restated s o.sized t n busy)) l (λ x. sym (restated_sounds s o t n busy k x))

pub follows_changed : (h : Change) (s : Generators) (o : Ordered s) (l : List ℕ) → Follows s l → Follows (changed h s) l
unfolding changed
follows_changed h s o l f = follows_restated s o (changes h) (state_after h) (change_busy h) (after_sounds h) l f

pub follows_silenced : (x : Leaving) (s : Generators) (o : Ordered s) (l : List ℕ)
    → Follows s l → Follows (silenced x s) l
follows_silenced x s o l f =
    silenced_order x s o
    ∙ ap (filter_by (λ (g : ℕ). not (goes x s g))) f
    ∙ filter-filter (λ (g : ℕ). not (goes x s g)) (sounds s) (sounds (silenced x s)) l
    (λ g. swap (sounds s g) (not (goes x s g)) ∙ sym (silenced_sounds x s o g))

-- where nothing sounds the order is empty
pub follows_silent : (l : List ℕ) → Follows silent l
unfolding silent ages_of filter_by padded
follows_silent [] = refl
follows_silent (g ∷ l) = follows_silent l ∙ sym (rw (blank {A = ℕ} 0 64 g))

-- The law: the record's order is that of the last assignments of all that still sound.
pub by_assignment : (l : List Act) → ByAssignment l
by_assignment [] = follows_silent []
by_assignment (assign g c k h ∷ l) = follows_assigned (after l) (ordered l) g c k h (by_last l) (by_assignment l)
by_assignment (change h ∷ l) = follows_changed h (after l) (ordered l) (by_last l) (by_assignment l)
by_assignment (silence x ∷ l) = follows_silenced x (after l) (ordered l) (by_last l) (by_assignment l)

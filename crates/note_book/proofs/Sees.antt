-- The notes of the book are what can be seen of the generators: what an act does to a generator, the book does to its
-- slot.
-- Assumes nothing.
use Rattle.std.specs.Prelude.{if◌then◌else◌}
use mathlib.Core.Path.{◌≡◌, refl, sym, ap, ◌∙◌}
use mathlib.Core.Bool.{Bool, true, false, not, ◌&&◌, ◌||◌}
use Prim.Native.Nat.{ℕ, ◌<◌}
use borrow.Author.Tests.{eqb-true}
use lib.Dec.{eqb}
use Rattle.drums.specs.Drums.{excludes}
use Rattle.generators.specs.declared.Generators.{Generators}
use Rattle.generators.specs.Generators.{Generator, generator, at, is_busy, is_sounding, is_idle, assigned, silent}
use Rattle.releases.specs.declared.Change.{Change}
use Rattle.releases.specs.declared.Change.TheVariants.{ReleaseNote, ReleaseChannel, NoteOff, AllNotesOff, PedalUp}
use Rattle.releases.specs.Releases.{changes, key_up, state_after, changed}
use Rattle.silence.specs.declared.Leaving.TheVariants.{One, Channel, Group}
use Rattle.silence.specs.Silence.{is_among, leaves, silenced}
use Rattle.age_law.proofs.At.{Sized, restated, restated_at, silenced-at, assigned-at}
use Rattle.age_law.proofs.Assigned.{Ordered, change_busy, changed_ordered}
use Rattle.loops.proofs.Padded.{blank}
use Rattle.allocation.specs.Allocation.{cleared}
use Rattle.note_book.specs.Book.{Slot, empty, note, is_down, is_on_pedal, is_of, is_of_key, is_ended, freed, put}
use Rattle.note_book.specs.Claim.{slot_of}

-- the notes n are those of the generators s
abbrev pub Sees : (ℕ → Slot) → Generators → Type 0
Sees n s = (g : ℕ) → n g ≡ slot_of (at s g)

-- ---- one generator

-- a state is held, sustained or neither
pub data Kind (n : ℕ) : Type 0 where
  held : n ≡ 1 → Kind n
  sustained : n ≡ 2 → Kind n
  neither : eqb n 1 ≡ false → eqb n 2 ≡ false → Kind n

pub kind : (n : ℕ) → Kind n
kind n = go (eqb n 1) refl (eqb n 2) refl
  where
    go : (a : Bool) → eqb n 1 ≡ a → (b : Bool) → eqb n 2 ≡ b → Kind n
    go true p b q = held (eqb-true n 1 p)
    go false p true q = sustained (eqb-true n 2 q)
    go false p false q = neither p q

pub slot_if : (b : Bool) (x y : Generator) → slot_of (if b then x else y) ≡ (if b then slot_of x else slot_of y)
slot_if true x y = refl
slot_if false x y = refl

slot_up : (p : Bool) (c k : ℕ) → slot_of (generator (key_up p) c k) ≡ (if p then note true c k else empty)
slot_up true c k = refl
slot_up false c k = refl

same_if : {A : Type 0} (b : Bool) (x : A) → (if b then x else x) ≡ x
same_if true x = refl
same_if false x = refl

-- step 2, note-off, all notes off and the pedal: which notes a change means, and whether they go on the pedal
abbrev pub means : Change → Slot → Bool
means (ReleaseNote c k) s = is_of_key c k s
means (ReleaseChannel c) s = is_of c s
means (NoteOff pedal c k) s = is_down s && is_of_key c k s
means (AllNotesOff pedal c) s = is_down s && is_of c s
means (PedalUp c) s = is_on_pedal s && is_of c s

abbrev pub pedals : Change → Bool
pedals (ReleaseNote c k) = false
pedals (ReleaseChannel c) = false
pedals (NoteOff pedal c k) = pedal
pedals (AllNotesOff pedal c) = pedal
pedals (PedalUp c) = false

slot_after : (h : Change) (c k : ℕ)
    → slot_of (generator (state_after h) c k) ≡ (if pedals h then note true c k else empty)
unfolding state_after
slot_after (ReleaseNote d j) c k = refl
slot_after (ReleaseChannel d) c k = refl
slot_after (NoteOff pedal d j) c k = slot_up pedal c k
slot_after (AllNotesOff pedal d) c k = slot_up pedal c k
slot_after (PedalUp d) c k = refl

-- a change means the notes that it means of held and sustained generators, and no generator besides
held_means : (h : Change) (c k : ℕ) → changes h (generator 1 c k) ≡ means h (note false c k)
unfolding changes
held_means (ReleaseNote d j) c k = refl
held_means (ReleaseChannel d) c k = refl
held_means (NoteOff pedal d j) c k = refl
held_means (AllNotesOff pedal d) c k = refl
held_means (PedalUp d) c k = refl

sustained_means : (h : Change) (c k : ℕ) → changes h (generator 2 c k) ≡ means h (note true c k)
unfolding changes
sustained_means (ReleaseNote d j) c k = refl
sustained_means (ReleaseChannel d) c k = refl
sustained_means (NoteOff pedal d j) c k = refl
sustained_means (AllNotesOff pedal d) c k = refl
sustained_means (PedalUp d) c k = refl

neither_means : (h : Change) (n c k : ℕ) → eqb n 1 ≡ false → eqb n 2 ≡ false → changes h (generator n c k) ≡ false
unfolding changes
neither_means (ReleaseNote d j) n c k p q = rw (p, q)
neither_means (ReleaseChannel d) n c k p q = rw (p, q)
neither_means (NoteOff pedal d j) n c k p q = rw p
neither_means (AllNotesOff pedal d) n c k p q = rw p
neither_means (PedalUp d) n c k p q = rw q

slot_changed : (h : Change) (n c k : ℕ)
    → slot_of (if changes h (generator n c k) then generator (state_after h) c k else generator n c k)
    ≡ freed (means h) (pedals h) (slot_of (generator n c k))
slot_changed h n c k = go (kind n)
  where
    go : Kind n → slot_of (if changes h (generator n c k) then generator (state_after h) c k else generator n c k)
        ≡ freed (means h) (pedals h) (slot_of (generator n c k))
    go (held e) = rw (
      e,
      held_means h c k,
      slot_if (means h (note false c k)) (generator (state_after h) c k) (generator 1 c k),
      slot_after h c k,
    )
    go (sustained e) = rw (
      e,
      sustained_means h c k,
      slot_if (means h (note true c k)) (generator (state_after h) c k) (generator 2 c k),
      slot_after h c k,
    )
    go (neither p q) = rw (neither_means h n c k p q, p, q)

-- what falls silent, or gives way to a mask: a generator that passes the test t goes to y, which is no note
pub slot_freed : (f : Slot → Bool) (t : Bool) (y : Generator) (n c k : ℕ)
    → slot_of y ≡ empty → (n ≡ 1 → t ≡ f (note false c k)) → (n ≡ 2 → t ≡ f (note true c k))
    → slot_of (if t then y else generator n c k) ≡ freed f false (slot_of (generator n c k))
slot_freed f t y n c k z p q =
    slot_if t y (generator n c k) ∙ ap (λ (x : Slot). if t then x else slot_of (generator n c k)) z ∙ go (kind n)
  where
    go : Kind n → (if t then empty else slot_of (generator n c k)) ≡ freed f false (slot_of (generator n c k))
    go (held e) = rw (p e, e)
    go (sustained e) = rw (q e, e)
    go (neither r s) = rw (r, s) (same_if t empty)

slot_silenced : (f : Slot → Bool) (b : Bool) (n c k : ℕ) → f (note false c k) ≡ b → f (note true c k) ≡ b
    → slot_of (if is_sounding (generator n c k) && b then generator 0 0 0 else generator n c k)
    ≡ freed f false (slot_of (generator n c k))
slot_silenced f b n c k p q =
    slot_freed f (is_sounding (generator n c k) && b) (generator 0 0 0) n c k refl (λ e. rw (e, p)) (λ e. rw (e, q))

-- ---- all generators

pub sees_restated : (n : ℕ → Slot) (s : Generators) (z : Sized s) (t : Generator → Bool)
    (m : ℕ) (busy : (x : Generator) → t x ≡ true → is_busy x ≡ true) (f : Slot → Bool) (p : Bool)
    → ((g : ℕ) → slot_of (if t (at s g) then generator m (at s g).channel (at s g).key else at s g)
    ≡ freed f p (slot_of (at s g)))
    → Sees n s → Sees (λ g. freed f p (n g)) (restated s z t m busy)
sees_restated n s z t m busy f p h e g =
    ap (freed f p) (e g) ∙ sym (h g) ∙ ap slot_of (sym (restated_at s z t m busy g))

pub sees_changed : (h : Change) (n : ℕ → Slot) (s : Generators) → Sized s
    → Sees n s → Sees (λ g. freed (means h) (pedals h) (n g)) (changed h s)
unfolding changed
sees_changed h n s z e =
    sees_restated n s z (changes h) (state_after h) (change_busy h) (means h) (pedals h)
    (λ g. slot_changed h (at s g).state (at s g).channel (at s g).key) e

-- the notes of one channel, or of its group
abbrev pub among : ℕ → (ℕ → Bool) → Slot → Bool
among c f empty = false
among c f (note p d j) = eqb d c && f j

pub sees_channel : (c : ℕ) (n : ℕ → Slot) (s : Generators) → Sized s
    → Sees n s → Sees (λ g. freed (is_of c) false (n g)) (silenced (Channel c) s)
unfolding leaves is_among
sees_channel c n s z e g =
    ap (freed (is_of c) false) (e g)
    ∙ sym (slot_silenced (is_of c) (eqb (at s g).channel c) (at s g).state (at s g).channel (at s g).key refl refl)
    ∙ ap slot_of (sym (silenced-at (Channel c) s z g))

pub sees_group : (c k : ℕ) (n : ℕ → Slot) (s : Generators) → Sized s → Sees n s
    → Sees (λ g. freed (among c (excludes k)) false (n g)) (silenced (Group c k) s)
unfolding leaves is_among
sees_group c k n s z e g =
    ap (freed (among c (excludes k)) false) (e g)
    ∙ sym (slot_silenced (among c (excludes k)) (eqb (at s g).channel c && excludes k (at s g).key)
    (at s g).state (at s g).channel (at s g).key refl refl)
    ∙ ap slot_of (sym (silenced-at (Group c k) s z g))

-- a generator that is reported falls silent
pub sees_one : (h : ℕ) (n : ℕ → Slot) (s : Generators) → Sized s → Sees n s → Sees (put n h empty) (silenced (One h) s)
unfolding leaves is_among
sees_one h n s z e g = go (eqb g h) refl ∙ ap slot_of (sym (silenced-at (One h) s z g))
  where
    idle_slot : (i : Bool) → is_idle (at s g) ≡ i → empty ≡ slot_of (if not i && true then generator 0 0 0 else at s g)
    idle_slot true e = rw (eqb-true (at s g).state 0 e)
    idle_slot false e = refl

    kept : (b : Bool) → slot_of (at s g) ≡ slot_of (if b && false then generator 0 0 0 else at s g)
    kept true = refl
    kept false = refl

    go : (b : Bool) → eqb g h ≡ b
        → (if b then empty else n g) ≡ slot_of (if is_sounding (at s g) && b then generator 0 0 0 else at s g)
    go true q = idle_slot (is_idle (at s g)) refl
    go false q = e g ∙ kept (is_sounding (at s g))

-- an assigned generator has the new note
pub sees_assigned : (h c k : ℕ) (n : ℕ → Slot) (s : Generators) → Sized s
    → h < 64 → Sees n s → Sees (put n h (note false c k)) (assigned h c k s)
sees_assigned h c k n s z l e g = go (eqb g h) ∙ ap slot_of (sym (assigned-at h c k s z l g))
  where
    go : (b : Bool) → (if b then note false c k else n g) ≡ slot_of (if b then generator 1 c k else at s g)
    go true = refl
    go false = e g

-- nothing is seen of a fresh record
pub sees_silent : Sees (λ g. empty) silent
unfolding silent
sees_silent g = rw (blank {A = ℕ} 0 64 g)

-- ---- steps 2 and 3 together

ended_twice : (c k : ℕ) (x : Slot)
    → freed (among c (excludes k)) false (freed (is_of_key c k) false x) ≡ freed (is_ended true c k) false x
ended_twice c k empty = refl
ended_twice c k (note p d j) = go (eqb d c) refl (eqb j k) (excludes k j) refl
  where
    go : (a : Bool) → eqb d c ≡ a → (b e : Bool) → excludes k j ≡ e
        → freed (among c (excludes k)) false (if a && b then empty else note p d j)
        ≡ (if a && (b || e) then empty else note p d j)
    go false q b e r = rw q
    go true q true e r = refl
    go true q false e r = rw (q, r)

ended_once : (c k : ℕ) (x : Slot) → freed (is_of_key c k) false x ≡ freed (is_ended false c k) false x
ended_once c k empty = refl
ended_once c k (note p d j) = go (eqb d c) (eqb j k)
  where
    go : (a b : Bool) → (if a && b then empty else note p d j) ≡ (if a && (b || false) then empty else note p d j)
    go false b = refl
    go true true = refl
    go true false = refl

pub sees_cleared : (r : Bool) (c k : ℕ) (n : ℕ → Slot) (s : Generators) → Ordered s
    → Sees n s → Sees (λ g. freed (is_ended r c k) false (n g)) (cleared r c k s)
unfolding cleared
sees_cleared true c k n s o e g =
    sym (ended_twice c k (n g))
    ∙ sees_group c k _ (changed (ReleaseNote c k) s) (changed_ordered (ReleaseNote c k) s o).sized
    (sees_changed (ReleaseNote c k) n s o.sized e) g
sees_cleared false c k n s o e g = sym (ended_once c k (n g)) ∙ sees_changed (ReleaseNote c k) n s o.sized e g

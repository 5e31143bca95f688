-- Steps 4 and 5 behind one law: what the choice can be, said of the notes. Which generator of the chosen channel is
-- stolen is said of the notes and of the order of age: the first one on the pedal, else the first one down.
-- Assumes nothing.
use Rattle.std.specs.Prelude.{if◌then◌else◌, Some, None, Result, Ok, Err}
use Rattle.std.specs.Prelude as prelude
use mathlib.Core.Path.{◌≡◌, refl, sym, ap, ◌∙◌, subst}
use mathlib.Core.Bool.{Bool, true, false, ◌&&◌, true≢false, false≢true}
use mathlib.Core.List.{List, [], ◌∷◌, ◌++◌}
use mathlib.Core.Option.{Option, some, none, some-ne-none}
use Prim.Native.Nat.{ℕ, zero, suc, ◌+◌, ◌≤◌, ◌<◌}
use native.Mathlib.Omega.{arith}
use borrow.Author.Tests.{ltb-true, ltb-false, eqb-true, eqb-false, eq-eqb}
use lib.Dec.{eqb, ltb}
use Rattle.loops.specs.Cases.{bit, at_most, given}
use Rattle.loops.specs.Passes.{up_to, total, first_of, count}
use Rattle.loops.proofs.Totals.{total-same}
use Rattle.loops.proofs.Occurs.{occurs, occurs_snoc}
use Rattle.loops.proofs.Search.{first-same}
use Rattle.loops.proofs.Tests.{and_left, and_right}
use Rattle.refusals.specs.declared.Refusal.{Refusal}
use Rattle.refusals.specs.declared.Refusal.TheVariants as refusal
use Rattle.table.specs.declared.Entry.{Entry}
use Rattle.table.specs.declared.Table.{Table}
use Rattle.table.specs.Laws.{Distinct}
use Rattle.table.specs.Table.{listed}
use Rattle.shares.specs.Shares.{shares, sum, lookup}
use Rattle.ages.specs.Ages.{oldest_first}
use Rattle.generators.specs.declared.Generators.{Generators}
use Rattle.generators.specs.Generators.{Generator, at, is_idle, is_held, is_sustained, is_releasing, is_on, is_busy_on}
use Rattle.candidates.specs.declared.Want.TheVariants.{Releasing, SustainedOn, HeldOn}
use Rattle.candidates.specs.Candidates.{lowest_idle, wanted, oldest, stolen_first, busy_count}
use Rattle.candidates.proofs.Wanted.{found_none}
use Rattle.stealing.specs.Stealing.{counted, otherwise, over_share, steal_from, loses, victim}
use Rattle.allocation.specs.declared.Was.{Was}
use Rattle.allocation.specs.declared.Was.TheVariants.{Idle, Release, Stolen}
use Rattle.allocation.specs.declared.Taken.{Taken}
use Rattle.allocation.specs.Allocation.{is_stolen, or_else, choice}
use Rattle.note_book.specs.Book.{Slot, empty, note, is_note, is_down, is_on_pedal, is_of, notes_on}
use Rattle.note_book.specs.Claim.{slot_of}
use Rattle.note_book.specs.WhoLoses.{with_new, first_to_go}
use Rattle.note_book.proofs.Sees.{Sees, Kind, kind, held, sustained, neither}
use Rattle.note_book.proofs.Playable.{Playable}
use Rattle.note_book.proofs.Pigeons.{IsOver, IsListed, over_some, over_same, pigeons}

-- ---- a search finds what passes if anything does

data Picked (f : ℕ → Bool) (l : List ℕ) : Option ℕ → Type 0 where
  some_one : (g : ℕ) → f g ≡ true → 1 ≤ occurs g l → Picked f l (some g)
  no_one : ((g : ℕ) → 1 ≤ occurs g l → f g ≡ false) → Picked f l none

first_law : (f : ℕ → Bool) (l : List ℕ) → Picked f l (first_of f l)
unfolding first_of count
first_law f [] = no_one (λ g h. absurd (omega arith))
first_law f (x ∷ l) = go (f x) refl (first_of f l) (first_law f l)
  where
    more : (g : ℕ) → f x ≡ false → (1 ≤ occurs g l → f g ≡ false)
        → (b : Bool) → eqb x g ≡ b → 1 ≤ bit b + occurs g l → f g ≡ false
    more g e h true q k = ap f (sym (eqb-true x g q)) ∙ e
    more g e h false q k = h (omega arith)

    go : (b : Bool) → f x ≡ b → (o : Option ℕ) → Picked f l o → Picked f (x ∷ l) (if b then some x else o)
    go true e o h = some_one x e (rw (eq-eqb x x refl) (omega arith))
    go false e o (some_one g t k) = some_one g t (omega arith)
    go false e o (no_one h) = no_one (λ g k. more g e (h g) (eqb x g) refl k)

abbrev numbers : ℕ → List ℕ
numbers n = up_to (λ g. g) n

in_numbers : (n g : ℕ) → g < n → 1 ≤ occurs g (numbers n)
unfolding up_to
in_numbers zero g h = absurd (omega arith)
in_numbers (suc n) g h = let s = occurs_snoc g n (numbers n) in go (eqb n g) refl (in_numbers n g) s
  where
    go : (b : Bool) → eqb n g ≡ b → (g < n → 1 ≤ occurs g (numbers n))
        → occurs g (numbers n ++ (n ∷ [])) ≡ occurs g (numbers n) + bit b → 1 ≤ occurs g (numbers n ++ (n ∷ []))
    go true e ih s = omega arith
    go false e ih s = let q = eqb-false n g e in let k = ih (omega arith) in omega arith

numbers_in : (n g : ℕ) → 1 ≤ occurs g (numbers n) → g < n
unfolding up_to count
numbers_in zero g h = absurd (omega arith)
numbers_in (suc n) g h = let s = occurs_snoc g n (numbers n) in go (eqb n g) refl (numbers_in n g) s
  where
    go : (b : Bool) → eqb n g ≡ b → (1 ≤ occurs g (numbers n) → g < n)
        → occurs g (numbers n ++ (n ∷ [])) ≡ occurs g (numbers n) + bit b → g < suc n
    go true e ih s = let q = eqb-true n g e in omega arith
    go false e ih s = let k = ih (omega arith) in omega arith

at_most_p : (p : ℕ) → p ≤ 64 → at_most 64 p ≡ p
at_most_p p h = omega arith

-- ---- one generator

pub idle_slot : (x : Generator) → is_idle x ≡ true → slot_of x ≡ empty
idle_slot x e = rw (eqb-true x.state 0 e)

releasing_slot : (x : Generator) → is_releasing x ≡ true → slot_of x ≡ empty
releasing_slot x e = rw (eqb-true x.state 3 e)

busy_slot : (c : ℕ) (x : Generator) → is_busy_on c x ≡ is_of c (slot_of x)
busy_slot c x = go (kind x.state)
  where
    go : Kind x.state → is_busy_on c x ≡ is_of c (slot_of x)
    go (held e) = rw e
    go (sustained e) = rw e
    go (neither p q) = rw (p, q)

pedal_slot : (c : ℕ) (x : Generator) → is_sustained x && is_on c x ≡ is_on_pedal (slot_of x) && is_of c (slot_of x)
pedal_slot c x = go (kind x.state)
  where
    go : Kind x.state → is_sustained x && is_on c x ≡ is_on_pedal (slot_of x) && is_of c (slot_of x)
    go (held e) = rw e
    go (sustained e) = rw e
    go (neither p q) = rw (p, q)

down_slot : (c : ℕ) (x : Generator) → is_held x && is_on c x ≡ is_down (slot_of x) && is_of c (slot_of x)
down_slot c x = go (kind x.state)
  where
    go : Kind x.state → is_held x && is_on c x ≡ is_down (slot_of x) && is_of c (slot_of x)
    go (held e) = rw e
    go (sustained e) = rw e
    go (neither p q) = rw (p, q)

releasing_sounds : (x : Generator) → is_releasing x ≡ true → is_idle x ≡ false
releasing_sounds x e = rw (eqb-true x.state 3 e)

-- a note is of one channel
pub same-channel : (c d : ℕ) (x : Slot) → is_of c x ≡ true → is_of d x ≡ true → c ≡ d
same-channel c d empty e f = absurd (false≢true e)
same-channel c d (note p x k) e f = sym (eqb-true x c e) ∙ eqb-true x d f

of_note : (c : ℕ) (x : Slot) → is_of c x ≡ true → is_note x ≡ true
of_note c empty e = e
of_note c (note p d k) e = refl

-- a note is on the pedal or down
pedal_up : (x : Slot) → is_on_pedal x ≡ true → is_down x ≡ true → ⊥
pedal_up empty e f = false≢true e
pedal_up (note true d k) e f = false≢true f
pedal_up (note false d k) e f = false≢true e

neither_of : (c : ℕ) (x : Slot) → is_on_pedal x && is_of c x ≡ false → is_down x && is_of c x ≡ false
    → is_of c x ≡ false
neither_of c empty e f = refl
neither_of c (note true d k) e f = e
neither_of c (note false d k) e f = f

pub note_sounds : (x : Generator) → is_note (slot_of x) ≡ true → is_idle x ≡ false
note_sounds x e = go (is_idle x) refl
  where
    go : (b : Bool) → is_idle x ≡ b → b ≡ false
    go true i = sym e ∙ ap is_note (idle_slot x i)
    go false i = refl

-- a state from 0 to 3 that is neither idle nor releasing is busy
rest-notes : (x : Generator) → x.state ≤ 3 → is_idle x ≡ false → is_releasing x ≡ false → is_note (slot_of x) ≡ true
rest-notes x h i r = go (kind x.state)
  where
    go : Kind x.state → is_note (slot_of x) ≡ true
    go (held e) = rw e
    go (sustained e) = rw e
    go (neither p q) =
        let a = eqb-false x.state 0 i in
        let b = eqb-false x.state 1 p in
        let c = eqb-false x.state 2 q in
        let d = eqb-false x.state 3 r in
        absurd (omega arith)

over_none : (x : prelude.Option ℕ) → IsOver x 0 → ⊥
over_none None v = v
over_none (Some u) v = omega arith

-- ---- the choice

abbrev pub Full : ℕ → (ℕ → Slot) → Type 0
Full p n = (g : ℕ) → g < p → is_note (n g) ≡ true

-- where generator g's note is down, channel d has none on the pedal
abbrev pub KeyLast : (ℕ → Slot) → ℕ → ℕ → Type 0
KeyLast n d g = is_down (n g) ≡ true → (h : ℕ) → is_on_pedal (n h) && is_of d (n h) ≡ false

pub data Chosen (p : ℕ) (n : ℕ → Slot) (s : Generators) (q : List Entry) (c : ℕ) : Result Taken Refusal → Type 0 where
  free : (g : ℕ) (w : Was) → is_stolen w ≡ false → g < p → n g ≡ empty → Chosen p n s q c (Ok (record { generator = g; was = w }))
  theft : (g d : ℕ) → Full p n → g < p → is_of d (n g) ≡ true → IsOver (lookup d q) (with_new p n c d)
      → over_share (with_new p n c) q ≡ some d → first_to_go n (oldest_first s.ages) d ≡ some g → KeyLast n d g
      → Chosen p n s q c (Ok (record { generator = g; was = Stolen }))
  shut : Full p n → IsOver (lookup c q) (with_new p n c c) → notes_on p c n ≡ 0
      → over_share (with_new p n c) q ≡ some c → first_to_go n (oldest_first s.ages) c ≡ none
      → Chosen p n s q c (Err refusal.NothingToSteal)

pub total_cut : (f : ℕ → ℕ) (m n : ℕ) → m ≤ n → ((i : ℕ) → m ≤ i → f i ≡ 0) → total f n ≡ total f m
unfolding total
total_cut f m zero h z = let e : m ≡ 0 = omega arith in rw e
total_cut f m (suc n) h z = go (ltb n m) refl (total_cut f m n)
  where
    go : (b : Bool) → ltb n m ≡ b
        → (m ≤ n → ((i : ℕ) → m ≤ i → f i ≡ 0) → total f n ≡ total f m) → total f (suc n) ≡ total f m
    go true e ih = let k = ltb-true n m e in let e : m ≡ suc n = omega arith in rw e
    go false e ih = let k : m ≤ n = ltb-false n m e in let j = ih k z in let y = z n k in omega arith

module _ (p : ℕ) (n : ℕ → Slot) (s : Generators) (o : Playable p s) (e : Sees n s) where
  below : (g : ℕ) → is_idle (at s g) ≡ false → g < p
  below g i = go (ltb g p) refl
    where
      go : (b : Bool) → ltb g p ≡ b → g < p
      go true t = ltb-true g p t
      go false t = absurd (true≢false (sym (o.above g (ltb-false g p t)) ∙ i))

  -- the device counts the notes of the book
  pub count-notes : (c : ℕ) → busy_count s c ≡ notes_on p c n
  unfolding busy_count
  count-notes c =
      total-same (λ (g : ℕ). bit (is_busy_on c (at s g))) (λ (g : ℕ). bit (is_of c (n g))) 64
      (λ g k. ap bit (busy_slot c (at s g) ∙ ap (is_of c) (sym (e g))))
      ∙ total_cut (λ (g : ℕ). bit (is_of c (n g))) p 64 o.few
      (λ g k. ap (λ (x : Slot). bit (is_of c x)) (e g ∙ idle_slot (at s g) (o.above g k)))

  -- what stands in the order of age is what sounds
  in_order : (g : ℕ) → is_idle (at s g) ≡ false → 1 ≤ occurs g (oldest_first s.ages)
  in_order g i = rw (o.ordered.once g, i) (omega arith)

  -- every note stands in the order of age
  note-in-order : (g : ℕ) → is_note (n g) ≡ true → 1 ≤ occurs g (oldest_first s.ages)
  note-in-order g y = in_order g (note_sounds (at s g) (ap is_note (sym (e g)) ∙ y))

  -- so that a search along it for notes of a channel that finds none has seen them all
  none_at_all : (f : Slot → Bool) → f empty ≡ false
      → ((g : ℕ) → 1 ≤ occurs g (oldest_first s.ages) → f (n g) ≡ false) → (g : ℕ) → f (n g) ≡ false
  none_at_all f z h g = go (n g) refl
    where
      go : (x : Slot) → n g ≡ x → f (n g) ≡ false
      go empty y = ap f y ∙ z
      go (note p d k) y = h g (note-in-order g (ap is_note y))

  -- the device's searches are those of the notes
  pedal-search : (d : ℕ) → first_of (λ g. is_sustained (at s g) && is_on d (at s g)) (oldest_first s.ages)
      ≡ first_of (λ g. is_on_pedal (n g) && is_of d (n g)) (oldest_first s.ages)
  pedal-search d = first-same (λ g. is_sustained (at s g) && is_on d (at s g)) (λ g. is_on_pedal (n g) && is_of d (n g))
      (λ g. pedal_slot d (at s g) ∙ ap (λ (x : Slot). is_on_pedal x && is_of d x) (sym (e g))) (oldest_first s.ages)

  down-search : (d : ℕ) → first_of (λ g. is_held (at s g) && is_on d (at s g)) (oldest_first s.ages)
      ≡ first_of (λ g. is_down (n g) && is_of d (n g)) (oldest_first s.ages)
  down-search d = first-same (λ g. is_held (at s g) && is_on d (at s g)) (λ g. is_down (n g) && is_of d (n g))
      (λ g. down_slot d (at s g) ∙ ap (λ (x : Slot). is_down x && is_of d x) (sym (e g))) (oldest_first s.ages)

  -- a search along the order of age for sustained ones finds none exactly where none is counted
  none-sustained : (d : ℕ) → total (λ g. bit (is_sustained (at s g) && is_on d (at s g))) 64 ≡ 0
      → first_of (λ g. is_sustained (at s g) && is_on d (at s g)) (oldest_first s.ages) ≡ none
  unfolding wanted
  none-sustained d z =
      found_none (SustainedOn d) s.state s.channel s.key o.ordered.sized.states z (oldest_first s.ages)

  none_counted : (d : ℕ) → first_of (λ g. is_on_pedal (n g) && is_of d (n g)) (oldest_first s.ages) ≡ none
      → total (λ g. bit (is_sustained (at s g) && is_on d (at s g))) 64 ≡ 0
  unfolding total
  none_counted d y =
      total_cut (λ (g : ℕ). bit (is_sustained (at s g) && is_on d (at s g))) 0 64 (omega arith)
      (λ g k. ap bit (pedal_slot d (at s g) ∙ ap (λ (x : Slot). is_on_pedal x && is_of d x) (sym (e g)) ∙ all g))
    where
      missed : (x : Option ℕ) → x ≡ none → Picked (λ g. is_on_pedal (n g) && is_of d (n g)) (oldest_first s.ages) x
          → (g : ℕ) → 1 ≤ occurs g (oldest_first s.ages) → is_on_pedal (n g) && is_of d (n g) ≡ false
      missed x z (some_one h b k) = absurd (some-ne-none h z)
      missed x z (no_one h) = h

      all : (g : ℕ) → is_on_pedal (n g) && is_of d (n g) ≡ false
      all = none_at_all (λ x. is_on_pedal x && is_of d x) refl
          (missed _ y (first_law (λ g. is_on_pedal (n g) && is_of d (n g)) (oldest_first s.ages)))

  loses-notes : (d : ℕ) → loses s (given (some d)) ≡ given (first_to_go n (oldest_first s.ages) d)
  unfolding oldest wanted stolen_first
  loses-notes d = go (eqb (total (λ g. bit (is_sustained (at s g) && is_on d (at s g))) 64) 0) refl
    where
      pedal : Option ℕ
      pedal = first_of (λ g. is_on_pedal (n g) && is_of d (n g)) (oldest_first s.ages)

      there : (x : Option ℕ) → pedal ≡ x
          → eqb (total (λ g. bit (is_sustained (at s g) && is_on d (at s g))) 64) 0 ≡ false
          → (y : Option ℕ) → given x ≡ given (otherwise x y)
      there (some g) r q y = refl
      there none r q y = absurd (true≢false (sym (eq-eqb _ _ (none_counted d r)) ∙ q))

      go : (b : Bool) → eqb (total (λ g. bit (is_sustained (at s g) && is_on d (at s g))) 64) 0 ≡ b
          → given (first_of (λ g. wanted (if b then HeldOn d else SustainedOn d) (at s g)) (oldest_first s.ages))
          ≡ given (first_to_go n (oldest_first s.ages) d)
      go true q =
          let z : pedal ≡ none = sym (pedal-search d) ∙ none-sustained d (eqb-true _ _ q) in
          ap given (down-search d ∙ sym (ap (λ (x : Option ℕ). otherwise x
          (first_of (λ g. is_down (n g) && is_of d (n g)) (oldest_first s.ages))) z))
      go false q = ap given (pedal-search d) ∙ there pedal refl q _

  -- what the searches find
  data Lost (d : ℕ) : Option ℕ → Type 0 where
    a-note : (g : ℕ) → is_of d (n g) ≡ true → KeyLast n d g → Lost d (some g)
    no_note : ((g : ℕ) → is_of d (n g) ≡ false) → Lost d none

  lost : (d : ℕ) → Lost d (first_to_go n (oldest_first s.ages) d)
  lost d = go _ (first_law (λ g. is_on_pedal (n g) && is_of d (n g)) (oldest_first s.ages))
      _ (first_law (λ g. is_down (n g) && is_of d (n g)) (oldest_first s.ages))
    where
      go : (x : Option ℕ) → Picked (λ g. is_on_pedal (n g) && is_of d (n g)) (oldest_first s.ages) x
          → (y : Option ℕ) → Picked (λ g. is_down (n g) && is_of d (n g)) (oldest_first s.ages) y
          → Lost d (otherwise x y)
      go x (some_one g b k) y r =
          a-note g (and_right (is_on_pedal (n g)) _ b)
          (λ t. absurd (pedal_up (n g) (and_left (is_on_pedal (n g)) _ b) t))
      go x (no_one a) y (some_one g b k) =
          a-note g (and_right (is_down (n g)) _ b) (λ t. none_at_all (λ x. is_on_pedal x && is_of d x) refl a)
      go x (no_one a) y (no_one b) =
          no_note (λ g. neither_of d (n g) (none_at_all (λ x. is_on_pedal x && is_of d x) refl a g)
          (none_at_all (λ x. is_down x && is_of d x) refl b g))

  module _ (q : List Entry) (c : ℕ) (u : Distinct q) (t : sum q ≤ p)
      (l : listed c q ≡ true) (h : (g : ℕ) → IsListed q (n g)) where
    -- the chosen channel has a note, or is the new note's own
    take-first : Full p n → (d : ℕ) → over_share (with_new p n c) q ≡ some d → IsOver (lookup d q) (with_new p n c d)
        → Chosen p n s q c (or_else (loses s (given (some d))) Stolen (Err refusal.NothingToSteal))
    unfolding total
    take-first f d o v = rw (loses-notes d) (go (first_to_go n (oldest_first s.ages) d) refl (lost d))
      where
        own : (m : ℕ) (b : Bool) → eqb d c ≡ b → m ≡ 0 → IsOver (lookup d q) (m + bit b) → d ≡ c
        own m true eb z v = eqb-true d c eb
        own m false eb z v = absurd (over_none (lookup d q) (rw z at v))

        go : (x : Option ℕ) → first_to_go n (oldest_first s.ages) d ≡ x → Lost d x
            → Chosen p n s q c (or_else (given x) Stolen (Err refusal.NothingToSteal))
        go x r (a-note g y k) =
            theft g d f (below g (note_sounds (at s g) (ap is_note (sym (e g)) ∙ of_note d (n g) y))) y v o r k
        go x r (no_note z) =
            let m : notes_on p d n ≡ 0 =
            total_cut (λ (g : ℕ). bit (is_of d (n g))) 0 p (omega arith) (λ g k. ap bit (z g)) in
            let h : d ≡ c = own (notes_on p d n) (eqb d c) refl m v in
            shut f (subst (λ (y : ℕ). IsOver (lookup y q) (with_new p n c y)) h v)
            (subst (λ (y : ℕ). notes_on p y n ≡ 0) h m) (o ∙ ap some h)
            (subst (λ (y : ℕ). first_to_go n (oldest_first s.ages) y ≡ none) h r)

    rob : Full p n → (x : Option ℕ) → over_share (with_new p n c) q ≡ x
        → Chosen p n s q c (or_else (loses s (given x)) Stolen (Err refusal.NothingToSteal))
    rob f none r = absurd (pigeons p n q c f h l t r)
    rob f (some d) r = take-first f d r (over_some (with_new p n c) q d u r)

    pub chosen : (m : Table) → shares p m ≡ q → Chosen p n s q c (choice s m p c)
    unfolding choice lowest_idle oldest wanted victim steal_from
    chosen m r = rw (at_most_p p o.few)
        (go (first_of (λ g. is_idle (at s g)) (numbers p)) (first_law (λ g. is_idle (at s g)) (numbers p)))
      where
        steal : Full p n
            → Chosen p n s q c
            (or_else (loses s (given (over_share (counted s c) (shares p m)))) Stolen (Err refusal.NothingToSteal))
        steal f =
            rw (r, over_same (counted s c) (with_new p n c) q (λ d. ap (λ (k : ℕ). k + bit (eqb d c)) (count-notes d)))
            (rob f (over_share (with_new p n c) q) refl)

        full : ((g : ℕ) → 1 ≤ occurs g (numbers p) → is_idle (at s g) ≡ false)
            → ((g : ℕ) → 1 ≤ occurs g (oldest_first s.ages) → is_releasing (at s g) ≡ false) → Full p n
        full a b g k =
            let i = a g (in_numbers p g k) in
            ap is_note (e g) ∙ rest-notes (at s g) (o.states g) i (b g (in_order g i))

        next : ((g : ℕ) → 1 ≤ occurs g (numbers p) → is_idle (at s g) ≡ false)
            → (x : Option ℕ) → Picked (λ g. is_releasing (at s g)) (oldest_first s.ages) x
            → Chosen p n s q c (or_else (given x) Release (or_else (victim s m p c) Stolen (Err refusal.NothingToSteal)))
        next a x (some_one g b k) =
            free g Release refl (below g (releasing_sounds (at s g) b)) (e g ∙ releasing_slot (at s g) b)
        next a x (no_one b) = steal (full a b)

        go : (x : Option ℕ) → Picked (λ g. is_idle (at s g)) (numbers p) x → Chosen p n s q c
            (or_else (given x) Idle
            (or_else (oldest Releasing s) Release (or_else (victim s m p c) Stolen (Err refusal.NothingToSteal))))
        go x (some_one g b k) = free g Idle refl (numbers_in p g k) (e g ∙ idle_slot (at s g) b)
        go x (no_one a) = next a (first_of (λ g. is_releasing (at s g)) (oldest_first s.ages))
            (first_law (λ g. is_releasing (at s g)) (oldest_first s.ages))

-- Step 5 said of the book before the note-on. Where it has a note on every generator and the new note ends none, steps
-- 2 and 3 change nothing; and the order of age is that of the answers without what no longer sounds, where no search
-- for a note would stop. So the searches of the device and those on paper find the same.
-- Assumes nothing.
use mathlib.Core.Path.{◌≡◌, refl, sym, ap, ◌∙◌}
use mathlib.Core.Bool.{Bool, true, false, not, ◌&&◌, false≢true}
use mathlib.Core.List.{List}
use mathlib.Core.Option.{Option, some}
use Prim.Native.Nat.{ℕ, ◌+◌}
use lib.Dec.{eqb}
use Rattle.loops.specs.Cases.{bit}
use Rattle.loops.specs.Passes.{first_of}
use Rattle.loops.proofs.Search.{first-same, first-among}
use Rattle.loops.proofs.Totals.{total-same}
use Rattle.shares.specs.Shares.{shares_from}
use Rattle.stealing.specs.Stealing.{otherwise, over_share}
use Rattle.ages.specs.Ages.{oldest_first}
use Rattle.generators.specs.declared.Generators.{Generators}
use Rattle.generators.specs.Generators.{at, is_sounding}
use Rattle.age_law.proofs.Assigned.{Follows}
use Rattle.note_book.specs.Book.{Slot, empty, note, Book, is_note, is_down, is_on_pedal, is_of, freed}
use Rattle.note_book.specs.WhoLoses.{with_new, payer, first_to_go, paid_by, goes}
use Rattle.note_book.proofs.Sees.{Sees}
use Rattle.note_book.proofs.Pigeons.{over_same}
use Rattle.note_book.proofs.Choose.{note_sounds}

-- a note that does not end stays
pub freed-same : (f : Slot → Bool) (x : Slot) → f x ≡ false → freed f false x ≡ x
freed-same f empty e = refl
freed-same f (note p c k) e = rw e

-- what a search for notes stops at, on the pedal or down, sounds
noted : (f : Slot → Bool) (d : ℕ) (x : Slot) → f empty ≡ false → f x && is_of d x ≡ true → is_note x ≡ true
noted f d empty z e = absurd (false≢true (sym (ap (λ (b : Bool). b && false) z) ∙ e))
noted f d (note p c k) z e = refl

module _ (b : Book) (n : ℕ → Slot) (same : (g : ℕ) → n g ≡ b.notes g) (s : Generators) (e : Sees n s)
    (l : List ℕ) (f : Follows s l) where
  sounding : (t : Slot → Bool) (d : ℕ) → t empty ≡ false
      → (g : ℕ) → t (n g) && is_of d (n g) ≡ true → is_sounding (at s g) ≡ true
  sounding t d z g y = ap not (note_sounds (at s g) (ap is_note (sym (e g)) ∙ noted t d (n g) z y))

  -- one search: by the notes that remain along the order of age, and by the book along the answers
  by-answers : (t : Slot → Bool) (d : ℕ) → t empty ≡ false
      → first_of (λ g. t (b.notes g) && is_of d (b.notes g)) l
      ≡ first_of (λ g. t (n g) && is_of d (n g)) (oldest_first s.ages)
  by-answers t d z =
      first-same (λ g. t (b.notes g) && is_of d (b.notes g)) (λ g. t (n g) && is_of d (n g))
      (λ g. ap (λ (x : Slot). t x && is_of d x) (sym (same g))) l
      ∙ sym (ap (first_of (λ g. t (n g) && is_of d (n g))) f
      ∙ first-among (λ g. t (n g) && is_of d (n g)) (λ g. is_sounding (at s g)) (sounding t d z) l)

  same-payer : (c : ℕ) → payer b c ≡ over_share (with_new b.polyphony n c) (shares_from b.polyphony 0 b.table)
  same-payer c =
      over_same (with_new b.polyphony b.notes c) (with_new b.polyphony n c)
      (shares_from b.polyphony 0 b.table)
      (λ d. ap (λ (x : ℕ). x + bit (eqb d c))
      (total-same (λ (g : ℕ). bit (is_of d (b.notes g))) (λ (g : ℕ). bit (is_of d (n g))) b.polyphony
      (λ g h. ap (λ (x : Slot). bit (is_of d x)) (sym (same g)))))

  pub foretells : (c d : ℕ) (x : Option ℕ)
      → over_share (with_new b.polyphony n c) (shares_from b.polyphony 0 b.table) ≡ some d
      → first_to_go n (oldest_first s.ages) d ≡ x → goes b l c ≡ x
  foretells c d x o r =
      ap (paid_by b.notes l) (same-payer c ∙ o)
      ∙ ap (λ (y : Option ℕ). otherwise y (first_of (λ g. is_down (b.notes g) && is_of d (b.notes g)) l))
      (by-answers is_on_pedal d refl)
      ∙ ap (otherwise (first_of (λ g. is_on_pedal (n g) && is_of d (n g)) (oldest_first s.ages)))
      (by-answers is_down d refl)
      ∙ r

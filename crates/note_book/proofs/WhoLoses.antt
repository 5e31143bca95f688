-- Who loses, over a list: the law of note-on says it of one event, and along the list the order of age is that of the
-- answers so far (`Age`).
-- Assumes nothing.
use mathlib.Core.Path.{subst}
use mathlib.Core.List.{List, [], ◌∷◌}
use Prim.Native.Nat.{ℕ}
use Rattle.message.specs.declared.Message.TheVariants.{NoteOn}
use Rattle.age_law.proofs.Assigned.{Follows}
use Rattle.instrument.specs.declared.Instrument.{Instrument}
use Rattle.playing.specs.declared.Answer.{Answer}
use Rattle.playing.specs.Playing.{played}
use Rattle.note_book.specs.Book.{Book, Heard, message}
use Rattle.note_book.specs.Claim.{AtNoteOn, System, Each}
use Rattle.note_book.specs.Age.{named}
use Rattle.note_book.specs.WhoLoses.{Foretold, PedalFirst, EachForetold, WhoLoses}
use Rattle.note_book.proofs.Matches.{Matches, note_law}
use Rattle.note_book.proofs.Run.{Right, right-message, at-note_ons, Lawful, Fine, fine_next}
use Rattle.note_book.proofs.Age as by-age

foretold_on : (i : Instrument) (b : Book) → Matches i b → (c k : ℕ) (a : Answer) (j : Instrument)
    → Right i b (message (NoteOn c k)) a j → (l : List ℕ) → Follows i.generators l → Foretold l b a c k
unfolding played
foretold_on i b m c k a j (right-message x s) l f = (note_law i b m c k).foretold l f

pedal_first_on : (i : Instrument) (b : Book) → Matches i b → (c k : ℕ) (a : Answer) (j : Instrument)
    → Right i b (message (NoteOn c k)) a j → PedalFirst b a c k
unfolding played
pedal_first_on i b m c k a j (right-message x s) = (note_law i b m c k).pedal_first

module _ (i j : Instrument) (b : Book) (m : Matches i b) (h : Heard) (a : Answer) (r : Right i b h a j) where
  foretold-heard : (l : List ℕ) → Follows i.generators l → AtNoteOn (Foretold l b a) h
  foretold-heard l f = at-note_ons (Foretold l b a) h
      (λ c k e. foretold_on i b m c k a j (subst (λ (x : Heard). Right i b x a j) e r) l f)

  pedal-first-heard : AtNoteOn (PedalFirst b a) h
  pedal-first-heard = at-note_ons (PedalFirst b a) h
      (λ c k e. pedal_first_on i b m c k a j (subst (λ (x : Heard). Right i b x a j) e r))

module _ (S : System) (L : Lawful S) where
  run-foretold : (s : S.State) → Fine S L s → (l : List ℕ)
      → Follows (S.instrument s).generators l → (es : List S.Event) → EachForetold S l s es
  run-foretold s f l q [] = tt
  run-foretold s f l q (e ∷ es) =
      let i = S.instrument s in
      let j = S.instrument (S.next s e) in
      let r = L.right s e f.is f.matches in (
        foretold-heard i j (S.book s) f.matches (S.hears s e) (S.answer s e) r l q,
        run-foretold (S.next s e) (fine_next S L s f e) (named l (S.answer s e))
            (by-age.step i j (S.book s) (S.hears s e) (S.answer s e) r f.matches l q) es,
      )

  run-pedal-first : (s : S.State) → Fine S L s → (es : List S.Event) → Each S PedalFirst s es
  run-pedal-first s f [] = tt
  run-pedal-first s f (e ∷ es) = (
    pedal-first-heard (S.instrument s) (S.instrument (S.next s e)) (S.book s)
        f.matches (S.hears s e) (S.answer s e) (L.right s e f.is f.matches),
    run-pedal-first (S.next s e) (fine_next S L s f e) es,
  )

  pub lawful_who_loses : (s : S.State) → Fine S L s
      → Follows (S.instrument s).generators [] → (es : List S.Event) → WhoLoses S s es
  lawful_who_loses s f q es = record { foretold = run-foretold s f [] q es; pedal_first = run-pedal-first s f es }

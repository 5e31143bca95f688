-- The page is the note book's: after every list the device has the book's table and P (`Matches`), and counts its notes
-- (`count-notes`).
-- Assumes nothing.
use Prim.Native.Nat.{ℕ}
use mathlib.Core.Path.{refl}
use mathlib.Core.List.{List}
use Rattle.candidates.specs.Candidates.{busy_count}
use Rattle.events.specs.declared.Event.{Event}
use Rattle.service.specs.Page.{page_of, page_text}
use Rattle.service.proofs.Lines.{rows_same}
use Rattle.note_book.specs.Book.{notes_on}
use Rattle.note_book.specs.Claim.{after, Live, begin}
use Rattle.note_book.proofs.Matches.{Matches}
use Rattle.note_book.proofs.Choose.{count-notes}
use Rattle.note_book.proofs.Run.{fine_after}
use Rattle.note_book.proofs.Bytes.{lawful, fine_begin}
use Rattle.shown.specs.Shown.{ShowsTheBook}

-- what demand 3 keeps of the device and the book
pub matched : (p id : ℕ) (l : List Event)
    → Matches (after Live (begin p id) l).device.instrument (after Live (begin p id) l).book
matched p id l = (fine_after Live lawful (begin p id) (fine_begin p id) l).matches

pub shows_the_book : ShowsTheBook
unfolding page_text page_of
shows_the_book p id l =
    let m = matched p id l in
    let b = (after Live (begin p id) l).book in
    let s = (after Live (begin p id) l).device.instrument.generators in
    rw (
      m.table,
      m.polyphony,
      rows_same b.table b.polyphony (busy_count s) (λ c. notes_on b.polyphony c b.notes) 16
          (λ c h. count-notes b.polyphony b.notes s m.playable m.notes c),
    ) refl

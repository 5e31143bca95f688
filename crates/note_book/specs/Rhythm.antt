-- Which channels are rhythm channels, by the record and by the book.
use Rattle.std.specs.Prelude.{ℕ, ◌≡◌, List}
use Rattle.instrument.specs.Instrument as of-instrument
use Rattle.note_book.specs.Book.{is_rhythm}
use Rattle.note_book.specs.Claim.{System, after}

module _ (S : System) where
  -- R10.13: the same behind a list; the list is any, so that it is so at the start and after every event
  abbrev pub SameRhythm : S.State → List S.Event → Type 0
  SameRhythm s l =
      (c : ℕ) → of-instrument.is_rhythm (S.instrument (after S s l)) c ≡ is_rhythm (S.book (after S s l)) c

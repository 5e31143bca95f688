-- The four theorems about every list: for every P and own ID, refused starts too, and every list of bytes and reports
-- from that start.
--
-- `demand_3`: after every event the busy generators are exactly the notes of the book (`exact`); a note is stolen, or
-- one of an unmasked channel turned away, only where every generator had a note that the new one does not end
-- (`fair`); a channel that stays within its share is served and never robbed (`shared`).
-- `age_is_by_answers`: the order of age in the record is that of the last *note* answers.
-- `who_loses`: where a note must go, the book and the answers so far give the device's answer, with the generator that
-- is stolen (`foretold`); and a key that is down is stolen only where its channel has no note on the pedal
-- (`pedal_first`).
-- `rhythm_is_by-book`: the rhythm channels of the record are those of the book.
--
-- What these words mean stands in specs/Book.antt, specs/Claim.antt, specs/Age.antt, specs/WhoLoses.antt and
-- specs/Rhythm.antt. The theorems hold of every lawful system (`Run`, `Age`, `WhoLoses`, and the invariant itself), and
-- bytes and reports are one (`Bytes`).
-- Assumes nothing.
use Prim.Native.Nat.{ℕ}
use mathlib.Core.List.{List}
use Rattle.events.specs.declared.Event.{Event}
use Rattle.note_book.specs.Claim.{Demand3, Live, begin}
use Rattle.note_book.specs.Age.{AgeByAnswers}
use Rattle.note_book.specs.WhoLoses.{WhoLoses}
use Rattle.note_book.specs.Rhythm.{SameRhythm}
use Rattle.note_book.proofs.Matches.{same-rhythm}
use Rattle.note_book.proofs.Run.{fine_after, lawful_demand_3}
use Rattle.note_book.proofs.Age.{age_by_answers}
use Rattle.note_book.proofs.WhoLoses.{lawful_who_loses}
use Rattle.note_book.proofs.Bytes.{lawful, fine_begin, silent-begin}

pub demand_3 : (p id : ℕ) (l : List Event) → Demand3 Live (begin p id) l
demand_3 p id l = lawful_demand_3 Live lawful (begin p id) (fine_begin p id) l

pub age_is_by_answers : (p id : ℕ) (l : List Event) → AgeByAnswers Live (begin p id) l
age_is_by_answers p id l = age_by_answers Live lawful (begin p id) (fine_begin p id) (silent-begin p id) l

pub who_loses : (p id : ℕ) (l : List Event) → WhoLoses Live (begin p id) l
who_loses p id l = lawful_who_loses Live lawful (begin p id) (fine_begin p id) (silent-begin p id) l

pub rhythm_is_by-book : (p id : ℕ) (l : List Event) → SameRhythm Live (begin p id) l
rhythm_is_by-book p id l c = same-rhythm _ _ (fine_after Live lawful (begin p id) (fine_begin p id) l).matches c

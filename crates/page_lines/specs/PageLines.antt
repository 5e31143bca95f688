-- R17.5: the program `page`: the listing program's input, P, the own ID, then MIDI bytes, answered at its end with
-- the device's service page. A refused start has no page: its number in decimal is then the answer, on a line that
-- ends with byte 0AH.
-- Assumes nothing.
use Rattle.std.specs.Prelude.{ℕ, ◌≡◌, List, [], ◌∷◌, ◌++◌, ltb, length, if◌then◌else◌}
use Rattle.text.specs.Text.{Put, decimal}
use Rattle.refusals.specs.Refusals.{number}
use Rattle.device.specs.declared.Device.{Device}
use Rattle.listed.specs.declared.Awaits.{Awaits}
use Rattle.listed.specs.declared.Awaits.TheVariants.{Polyphony, Id, Midi, Refused}
use Rattle.listed.specs.declared.Lister.{Lister}
use Rattle.listed.specs.Listing.{new_lister, after_all, missing}
use Rattle.service.specs.Page.{page_text, page_after}

-- several reads, one behind the other
abbrev pub parts_taken : Lister → List (List ℕ) → Lister
parts_taken l [] = l
parts_taken l (p ∷ ps) = parts_taken (after_all l p) ps

-- R16.1: the end of the input, as for the listing program
unfoldable pub ended : Lister → Lister
ended l = after_all l (missing l.awaits)

-- the line of a refused start
unfoldable pub number_line : ℕ → List ℕ
number_line n = decimal n ++ (10 ∷ [])

-- what is answered: nothing before a start, which no input's end leaves missing
abbrev pub answer_by : Awaits → Device → List ℕ
answer_by Polyphony d = []
answer_by (Id p) d = []
answer_by Midi d = page_text d
answer_by (Refused r) d = number_line (number r)

-- how that goes into a page: the service page whole or not at all, a number's line as far as there is room; the place
-- behind it, and the page then
unfoldable pub page_room : List ℕ → ℕ
page_room old = if ltb (length old) 323 then 0 else 323

abbrev pub AnswerPut : Awaits → Device → List ℕ → ℕ → List ℕ → Type 0
AnswerPut Polyphony d old next new = (next ≡ 0) × (new ≡ old)
AnswerPut (Id p) d old next new = (next ≡ 0) × (new ≡ old)
AnswerPut Midi d old next new = (next ≡ page_room old) × (new ≡ page_after d old)
AnswerPut (Refused r) d old next new = Put old 0 (number_line (number r)) next new

unfoldable pub answer_text : Lister → List ℕ
answer_text l = answer_by l.awaits l.device

-- R17.5: what standard output gets for an input; that it is this in whatever reads the input comes is in
-- proofs/Sentences.antt
unfoldable pub paged : List ℕ → List ℕ
paged input = answer_text (ended (after_all new_lister input))

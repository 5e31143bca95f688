-- What the program `page` writes for an input, sentence by sentence: however the input is cut into reads it is the
-- same; a P or ID that does not come is 0; a refused start writes its number on a line, whatever comes behind it; a
-- good one the page of the device after the MIDI bytes.
-- Assumes nothing.
use Prim.Native.Nat.{ℕ, ◌≤◌, ◌<◌}
use mathlib.Core.Path.{◌≡◌, refl, sym, ap, ◌∙◌}
use mathlib.Core.Bool.{true, false}
use mathlib.Core.List.{List, [], ◌∷◌, ◌++◌, flatten}
use borrow.Author.Tests.{lt-ltb, le-ltb}
use lib.ListN.{length}
use Rattle.text.specs.Text.{decimal_within}
use Rattle.refusals.specs.declared.Refusal.{Refusal}
use Rattle.refusals.specs.declared.Refusal.TheVariants as refusal
use Rattle.refusals.specs.Refusals.{number}
use Rattle.playing.specs.declared.Answer.TheVariants as answer
use Rattle.device.specs.declared.Device.{Device}
use Rattle.device.specs.declared.Output.{Output}
use Rattle.device.specs.Device.{fresh_device, is_wrong_p, started, after_bytes}
use Rattle.service.specs.Page.{page_text, page_after}
use Rattle.listed.specs.declared.Awaits.TheVariants.{Midi, Refused}
use Rattle.listed.specs.declared.Lister.{Lister}
use Rattle.listed.specs.Listing.{new_lister, behind_start, start_lister, after_midi, after, after_all}
use Rattle.listed.proofs.Parts.{after_parts}
use Rattle.listed.proofs.Sentences.{none_missing, nothing_changed, stopped}
use Rattle.page_lines.specs.PageLines.{parts_taken, ended, number_line, page_room, AnswerPut, answer_text, paged}

-- ---- however the input is cut into reads

parts_taken_lem : (l : Lister) (ps : List (List ℕ)) → parts_taken l ps ≡ after_all l (flatten ps)
unfolding after_all flatten
parts_taken_lem l [] = refl
parts_taken_lem l (p ∷ ps) = parts_taken_lem (after_all l p) ps ∙ sym (after_parts l p (flatten ps))

pub any_parts : (ps : List (List ℕ)) → answer_text (ended (parts_taken new_lister ps)) ≡ paged (flatten ps)
unfolding paged
any_parts ps = ap (λ (l : Lister). answer_text (ended l)) (parts_taken_lem new_lister ps)

-- ---- the start

-- behind a start nothing is missing
ended-started : (o : Output) → ended (start_lister o) ≡ start_lister o
unfolding ended start_lister after_all
ended-started o = rw (none_missing o.answer)

-- an input of no bytes is a start with P 0 and ID 0
both_missing : ended new_lister ≡ start_lister (started 0 0)
unfolding ended new_lister after_all after
both_missing = refl

pub missing_p : paged [] ≡ paged (0 ∷ 0 ∷ [])
unfolding paged new_lister after_all after
missing_p = ap answer_text (both_missing ∙ sym (ended-started (started 0 0)))

pub missing-id : (p : ℕ) → paged (p ∷ []) ≡ paged (p ∷ 0 ∷ [])
unfolding paged new_lister after_all after ended
missing-id p = ap answer_text (sym (ended-started (started p 0)))

-- ---- a refused start

refused-text : (l : Lister) (r : Refusal) → l.awaits ≡ Refused r → answer_text (ended l) ≡ number_line (number r)
unfolding answer_text ended after_all
refused-text l r e = rw e

-- it is known at once: what comes behind it changes nothing
pub known : (ps : List (List ℕ)) (rest : List ℕ) (r : Refusal)
    → (parts_taken new_lister ps).awaits ≡ Refused r → paged (flatten ps ++ rest) ≡ number_line (number r)
unfolding paged
known ps rest r e =
    let l = parts_taken new_lister ps in
    let k : after_all new_lister (flatten ps ++ rest) ≡ l =
    after_parts new_lister (flatten ps) rest
    ∙ ap (λ (x : Lister). after_all x rest) (sym (parts_taken_lem new_lister ps)) ∙ nothing_changed l r e rest in
    ap (λ (x : Lister). answer_text (ended x)) k ∙ refused-text l r e

pub refused_start : (p id : ℕ) (r : Refusal) (bs : List ℕ)
    → (started p id).answer ≡ answer.Number r → paged (p ∷ id ∷ bs) ≡ number_line (number r)
unfolding paged new_lister after_all after
refused_start p id r bs e =
    let o = started p id in
    ap (λ (x : Lister). answer_text (ended x)) (nothing_changed (start_lister o) r (stopped o r e) bs)
    ∙ refused-text (start_lister o) r (stopped o r e)

-- R8.1, R8.2: a wrong P and a wrong own ID
pub lines_written : (number_line 1 ≡ 49 ∷ 10 ∷ []) × (number_line 2 ≡ 50 ∷ 10 ∷ [])
unfolding number_line decimal_within
lines_written = (refl, refl)

pub wrong_p : (p id : ℕ) (bs : List ℕ) → is_wrong_p p ≡ true → paged (p ∷ id ∷ bs) ≡ 49 ∷ 10 ∷ []
unfolding started
wrong_p p id bs e = refused_start p id refusal.WrongPolyphony bs (rw e) ∙ lines_written.0

pub wrong_id : (p id : ℕ) (bs : List ℕ) → is_wrong_p p ≡ false → 126 < id → paged (p ∷ id ∷ bs) ≡ 50 ∷ 10 ∷ []
unfolding started
wrong_id p id bs e h = refused_start p id refusal.WrongId bs (rw (e, lt-ltb 126 id h)) ∙ lines_written.1

-- ---- a good start

-- one MIDI byte after the other
plays : (l : Lister) (bs : List ℕ) → l.awaits ≡ Midi
    → ((after_all l bs).awaits ≡ Midi) × ((after_all l bs).device ≡ after_bytes l.device bs)
unfolding after_all after after_midi after_bytes
plays l [] e = (e, refl)
plays l (b ∷ bs) e = rw e (plays (after_midi l b) bs refl)

page_text_lem : (l : Lister) (d : Device) → l.awaits ≡ Midi → l.device ≡ d → answer_text (ended l) ≡ page_text d
unfolding answer_text ended after_all
page_text_lem l d e f = rw e (ap page_text f)

pub good_start : (p id : ℕ) (bs : List ℕ) → is_wrong_p p ≡ false → id ≤ 126
    → paged (p ∷ id ∷ bs) ≡ page_text (after_bytes (fresh_device p id) bs)
unfolding paged new_lister after_all after started start_lister behind_start
good_start p id bs e h =
    let l : Lister = record { awaits = Midi; at = 0; device = fresh_device p id } in
    let m = plays l bs refl in
    rw (e, le-ltb 126 id h) (page_text_lem (after_all l bs) (after_bytes (fresh_device p id) bs) m.0 m.1)

-- ---- without room for the page nothing is written

pub no_room : (d : Device) (old new : List ℕ) (next : ℕ)
    → AnswerPut Midi d old next new → length old < 323 → (next ≡ 0) × (new ≡ old)
unfolding page_room page_after
no_room d old new next a h = (a.0 ∙ rw (lt-ltb (length old) 323 h) refl, a.1 ∙ rw (lt-ltb (length old) 323 h) refl)

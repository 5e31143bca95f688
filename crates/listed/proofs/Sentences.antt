-- R16.1, R16.6 of what is written for an input: a missing P or ID is 0; a refused start has one line and is the end.
-- Assumes nothing.
use Rattle.std.specs.Prelude.{None}
use Prim.Native.Nat.{ℕ}
use mathlib.Core.Path.{◌≡◌, refl}
use mathlib.Core.List.{List, [], ◌∷◌, ◌++◌, append-nil}
use Rattle.lines.specs.Lines.{line_of}
use Rattle.refusals.specs.declared.Refusal.{Refusal}
use Rattle.playing.specs.declared.Answer.{Answer}
use Rattle.playing.specs.declared.Answer.TheVariants as answer
use Rattle.device.specs.declared.Output.{Output}
use Rattle.device.specs.Device.{started}
use Rattle.listed.specs.declared.Awaits.TheVariants.{Refused}
use Rattle.listed.specs.declared.Lister.{Lister}
use Rattle.listed.specs.Listing.{heading, new_lister, behind_start, is_refused, start_line, start_lister}
use Rattle.listed.specs.Listing.{missing, line, after, listed_by, after_all, end_line, listing}

-- behind a start no byte is missing
pub none_missing : (a : Answer) → missing (behind_start a) ≡ []
unfolding behind_start
none_missing answer.Nothing = refl
none_missing answer.Done = refl
none_missing (answer.Note c k g w) = refl
none_missing (answer.NoNote r c k) = refl
none_missing (answer.Number r) = refl

-- so the end of the input adds nothing
end_started : (o : Output) → end_line (start_lister o) ≡ []
unfolding end_line start_lister listed_by
end_started o = rw (none_missing o.answer)

-- R16.1: a missing P or ID is 0
pub missing_p : listing [] ≡ listing (0 ∷ 0 ∷ [])
unfolding listing new_lister listed_by after_all line after end_line
missing_p = rw (append-nil (start_line (started 0 0)), end_started (started 0 0), append-nil (start_line (started 0 0)))

pub missing-id : (p : ℕ) → listing (p ∷ []) ≡ listing (p ∷ 0 ∷ [])
unfolding listing new_lister listed_by after_all line after end_line
missing-id p =
    rw (append-nil (start_line (started p 0)), end_started (started p 0), append-nil (start_line (started p 0)))

-- where the start was refused, no byte lists or changes anything
module _ (l : Lister) (r : Refusal) (e : l.awaits ≡ Refused r) where
  no_line : (b : ℕ) → line l b ≡ []
  unfolding line
  no_line b = rw e

  no_change : (b : ℕ) → after l b ≡ l
  unfolding after
  no_change b = rw e

  nothing-listed : (bs : List ℕ) → listed_by l bs ≡ []
  unfolding listed_by
  nothing-listed [] = refl
  nothing-listed (b ∷ bs) = rw (no_line b, no_change b) (nothing-listed bs)

  pub nothing_changed : (bs : List ℕ) → after_all l bs ≡ l
  unfolding after_all
  nothing_changed [] = refl
  nothing_changed (b ∷ bs) = rw (no_change b) (nothing_changed bs)

pub stopped : (o : Output) (r : Refusal) → o.answer ≡ answer.Number r → (start_lister o).awaits ≡ Refused r
unfolding start_lister behind_start
stopped o r e = rw e

refused-line : (o : Output) (r : Refusal) → o.answer ≡ answer.Number r → start_line o ≡ line_of None (answer.Number r)
unfolding start_line behind_start is_refused
refused-line o r e = rw e

-- R16.6: a refused start has one line, whatever comes behind it
pub failed_start : (p id : ℕ) (r : Refusal) (bs : List ℕ) → (started p id).answer ≡ answer.Number r
    → listing (p ∷ id ∷ bs) ≡ heading ++ line_of None (answer.Number r)
unfolding listing new_lister listed_by after_all line after
failed_start p id r bs e =
    let o = started p id in
    rw (
      nothing-listed (start_lister o) r (stopped o r e) bs,
      nothing_changed (start_lister o) r (stopped o r e) bs,
      append-nil (start_line o),
      end_started o,
      append-nil (start_line o),
      refused-line o r e,
    )

-- The reason that is kept of a refused start: what holds of R8.1 and R8.2 holds of it, whatever is read.
-- Assumes nothing.
use Rattle.std.specs.Prelude.{if◌then◌else◌}
use Prim.Native.Nat.{ℕ}
use mathlib.Core.Path.{◌≡◌, refl, sym, subst}
use mathlib.Core.Bool.{Bool, true, false}
use mathlib.Core.List.{List, [], ◌∷◌}
use lib.Dec.{ltb}
use Rattle.refusals.specs.declared.Refusal.{Refusal}
use Rattle.refusals.specs.declared.Refusal.TheVariants as refusal
use Rattle.playing.specs.declared.Answer.TheVariants as answer
use Rattle.device.specs.Device.{is_wrong_p, fresh_output, started}
use Rattle.listed.specs.declared.Awaits.{Awaits}
use Rattle.listed.specs.declared.Awaits.TheVariants.{Polyphony, Id, Midi, Refused}
use Rattle.listed.specs.declared.Lister.{Lister}
use Rattle.listed.specs.Listing.{new_lister, behind_start, start_lister, after_midi, after_by, after, after_all}
use Rattle.listed.specs.Listing.{InAwaits}

pub of_the_reason_kept : (P : Refusal → Type 0) (r : Refusal) → InAwaits P (Refused r) → P r
of_the_reason_kept P r h = h

-- nothing is asked before the first byte
pub at_the_beginning : (P : Refusal → Type 0) → InAwaits P new_lister.awaits
unfolding new_lister
at_the_beginning P = tt

module _ (P : Refusal → Type 0) (wrong_p : P refusal.WrongPolyphony) (wrong_id : P refusal.WrongId) where
  of_start : (p id : ℕ) → InAwaits P (start_lister (started p id)).awaits
  unfolding started start_lister behind_start
  of_start p id = go (is_wrong_p p) (ltb 126 id)
    where
      go : (a b : Bool)
          → InAwaits P (start_lister (if a then fresh_output (answer.Number refusal.WrongPolyphony) 1 0
          else if b then fresh_output (answer.Number refusal.WrongId) 1 0 else fresh_output answer.Done p id)).awaits
      go true b = wrong_p
      go false true = wrong_id
      go false false = tt

  by_what_is_awaited : (w : Awaits) (l : Lister) (b : ℕ) → l.awaits ≡ w → InAwaits P w
      → InAwaits P (after_by w l b).awaits
  unfolding after_midi
  by_what_is_awaited Polyphony l b e h = tt
  by_what_is_awaited (Id p) l b e h = of_start p b
  by_what_is_awaited Midi l b e h = tt
  by_what_is_awaited (Refused r) l b e h = subst (InAwaits P) (sym e) h

  pub of_each_byte : (l : Lister) (b : ℕ) → InAwaits P l.awaits → InAwaits P (after l b).awaits
  unfolding after
  of_each_byte l b h = by_what_is_awaited l.awaits l b refl h

  pub of_all_bytes : (l : Lister) (bs : List ℕ) → InAwaits P l.awaits → InAwaits P (after_all l bs).awaits
  unfolding after_all
  of_all_bytes l [] h = h
  of_all_bytes l (b ∷ bs) h = of_all_bytes (after l b) bs (of_each_byte l b h)

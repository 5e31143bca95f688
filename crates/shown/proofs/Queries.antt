-- The page agrees with the queries. A generator from P on is idle, so that asking for all 256 numbers counts what the
-- record's pass over 64 counts.
-- Assumes nothing.
use Rattle.std.specs.Prelude.{Option, Some, None, Ok, unwrap_or}
use Prim.Native.Nat.{ℕ, ◌≤◌}
use mathlib.Core.Path.{◌≡◌, refl, sym, ap, ◌∙◌}
use mathlib.Core.Bool.{Bool, true, false, ◌&&◌}
use mathlib.Core.List.{[], ◌∷◌}
use native.Mathlib.Omega.{arith}
use borrow.Author.Tests.{leb-true, le-leb}
use lib.Dec.{leb}
use Rattle.loops.specs.Cases.{bit}
use Rattle.loops.proofs.Totals.{total-same}
use Rattle.table.specs.Table.{entries_of}
use Rattle.shares.specs.Shares.{is_channel, is_masked, share_of}
use Rattle.generators.specs.Generators.{Generator, at, is_idle, is_busy, is_busy_on}
use Rattle.candidates.specs.Candidates.{busy_count}
use Rattle.device.specs.declared.Device.{Device}
use Rattle.queries.specs.Queries.{generator_query, mask_query, share_query}
use Rattle.service.specs.Page.{share_field, mark, row, page_text}
use Rattle.note_book.specs.Claim.{after, Live, begin}
use Rattle.note_book.proofs.Playable.{idle_busy}
use Rattle.note_book.proofs.Choose.{total_cut}
use Rattle.shown.specs.Shown.{share_told, mark_told, is_busy_told, is_on_told, busy_told, Agrees, AgreesWithQueries}
use Rattle.shown.proofs.Book.{matched}
use Rattle.shown.proofs.Fields.{line_at_lem, cut_channel, cut_place, cut_value, cut_share, cut_mark, cut_notes}

-- ---- masks and shares

share_told_lem : (s : Option ℕ) → share_field s ≡ share_told (Ok (is_masked s)) (Ok (unwrap_or s 0))
share_told_lem None = refl
share_told_lem (Some n) = refl

mark_told_lem : (s : Option ℕ) → mark s ∷ [] ≡ mark_told (Ok (is_masked s))
mark_told_lem None = refl
mark_told_lem (Some n) = refl

-- ---- generators

module _ (d : Device)
    (above : (g : ℕ) → d.instrument.polyphony ≤ g → is_idle (at d.instrument.generators g) ≡ true) where
  abbrev gen : ℕ → Generator
  gen g = at d.instrument.generators g

  -- what a query tells of a generator is what the record has
  pub told_busy : (g : ℕ) → is_busy_told (generator_query d g) ≡ is_busy (gen g)
  unfolding generator_query
  told_busy g = go (leb d.instrument.polyphony g) refl
    where
      go : (b : Bool) → leb d.instrument.polyphony g ≡ b → is_busy_told (generator_query d g) ≡ is_busy (gen g)
      go true e = rw e (sym (idle_busy (gen g) (above g (leb-true _ _ e))))
      go false e = rw e refl

  told-busy-on : (c g : ℕ)
      → is_busy_told (generator_query d g) && is_on_told c (generator_query d g) ≡ is_busy_on c (gen g)
  unfolding generator_query
  told-busy-on c g = go (leb d.instrument.polyphony g) refl
    where
      go : (b : Bool) → leb d.instrument.polyphony g ≡ b
          → is_busy_told (generator_query d g) && is_on_told c (generator_query d g) ≡ is_busy_on c (gen g)
      go true e = rw (e, idle_busy (gen g) (above g (leb-true _ _ e))) refl
      go false e = rw e refl

  pub none_busy : (g : ℕ) → d.instrument.polyphony ≤ g → bit (is_busy (gen g)) ≡ 0
  none_busy g h = rw (idle_busy (gen g) (above g h)) refl

  none-on : (c g : ℕ) → d.instrument.polyphony ≤ g → bit (is_busy_on c (gen g)) ≡ 0
  none-on c g h = rw (idle_busy (gen g) (above g h)) refl

  module _ (few : d.instrument.polyphony ≤ 64) where
    pub told-count : (c : ℕ) → busy_told d c ≡ busy_count d.instrument.generators c
    unfolding busy_count
    told-count c =
        total-same (λ (g : ℕ). bit (is_busy_told (generator_query d g) && is_on_told c (generator_query d g)))
        (λ (g : ℕ). bit (is_busy_on c (gen g))) 256 (λ g h. ap bit (told-busy-on c g))
        ∙ total_cut (λ (g : ℕ). bit (is_busy_on c (gen g))) 64 256 (omega arith) (λ g h. none-on c g (omega arith))

    pub agrees : (c : ℕ) → 1 ≤ c → c ≤ 16 → Agrees d c
    unfolding page_text row mask_query share_query share_of
    agrees c lo hi =
        let is : is_channel c ≡ true = rw (le-leb 1 c lo, le-leb c 16 hi) refl in
        let l = line_at_lem (entries_of d.instrument.table)
        d.instrument.polyphony (busy_count d.instrument.generators) c lo hi in
        record {
          channel = rw l (cut_channel c _ _ _);
          place = rw l (cut_place c _ _ _);
          value = rw l (cut_value c _ _ _);
          share =
              rw (l, is) (cut_share c _ _ _ ∙ share_told_lem (share_of d.instrument.table d.instrument.polyphony c));
          mark =
              rw (l, is) (cut_mark c _ _ _ ∙ mark_told_lem (share_of d.instrument.table d.instrument.polyphony c));
          notes = rw (l, told-count c) (cut_notes c _ _ _);
        }

pub agrees_with_queries : AgreesWithQueries
agrees_with_queries p id l c lo hi =
    let m = matched p id l in
    let few = m.playable.few in
    agrees (after Live (begin p id) l).device
    (λ g h. m.playable.above g (rw m.polyphony at h)) (rw m.polyphony few) c lo hi

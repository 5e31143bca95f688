-- The starting table, for every P: its entries are the sixteen channels in their order, each with the value P, and well
-- formed. The order is that of a formula, computed over all sixteen places.
-- Assumes nothing.
use mathlib.Core.Path.{◌≡◌, refl, sym, ap, ◌∙◌}
use mathlib.Core.List.{List, map}
use Prim.Native.Nat.{ℕ, ◌<◌}
use borrow.Author.Rules.{rules}
use lib.ListN.{length, get_or}
use Rattle.loops.specs.Passes.{up_to, padded}
use Rattle.loops.proofs.Fill.{at-up_to}
use Rattle.table.specs.Laws.{WellFormed}
use Rattle.table.specs.Table.{entry, entries_of, table_of, start_channel, start_order, start_table, listed}

-- the starting order is that formula, place by place
pub order_by_formula : start_order ≡ up_to start_channel 16
unfolding up_to
order_by_formula = refl

-- the channel at one of the sixteen places
pub start_channel_lem : (i : ℕ) → i < 16 → start_channel i ≡ get_or start_order i 0
start_channel_lem i h = sym (ap (λ (l : List ℕ). get_or l i 0) order_by_formula ∙ at-up_to start_channel 0 16 i h)

pub start_entries : (p : ℕ) → entries_of (start_table p) ≡ map (λ (c : ℕ). entry c p) start_order
unfolding start_table table_of padded
start_entries p = refl

pub start_length : (p : ℕ) → length (entries_of (start_table p)) ≡ 16
unfolding start_table table_of padded
start_length p = refl

pub start_well_formed : (p : ℕ) → WellFormed (entries_of (start_table p))
unfolding start_table table_of padded listed
start_well_formed p = record {
  short = search rules;
  rising = search rules;
  distinct = (
    refl,
    (
      refl,
      (
        refl,
        (refl, (refl, (refl, (refl, (refl, (refl, (refl, (refl, (refl, (refl, (refl, (refl, (refl, tt))))))))))))),
      ),
    ),
  );
  channels = search rules;
}

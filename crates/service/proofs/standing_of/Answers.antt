-- `service::standing_of` meets its contract: `position` finds the first entry that is the channel's.
-- Assumes nothing.
use Rattle.std.proofs.Common.{rules}
use Rattle.std.specs.Prelude.{Some, None, cond}
use Rattle.std.specs.List.{position_or_len}
use Rattle.std.proofs.lemmas.Iterator.{YieldsList-from_slice}
use Rattle.std.proofs.lemmas.Iterator.Search.{position_from_yields_List}
use mathlib.Core.Path.{◌≡◌, sym, ap, ◌∙◌}
use mathlib.Core.List.{List}
use Prim.Native.Nat.{ℕ}
use borrow.Author.Tests.{tests}
use lib.Dec.{ltb}
use lib.ListN.{length, take}
use Rattle.table.specs.declared.Entry.{Entry}
use Rattle.table.specs.Table.{entry, entries_of}
use Rattle.table.proofs.Sizes.{entries_16}
use Rattle.table.proofs.Walk.{all_entries}
use Rattle.service.specs.Page.{standing_from}
use Rattle.service.proofs.Walk.{is_its, standing_place, found_none, found_some}
use Rattle.service.proofs.standing_of.Goals as goal

pub returns-in_err-k : goal.returns-in_err-k
returns-in_err-k c =
    let a = c.args in
    let l : List Entry = take c.from.result a.t.entries in
    let i : ℕ = position_or_len (is_its a.c) l in
    let told : c.position.result ≡ cond (ltb i (length l)) (Some i) None =
    position_from_yields_List (is_its a.c) _ _ c.position.result c.position.ensures.ran
    (YieldsList-from_slice l cc) (λ x b q k. search (rules, tests)) in
    let all : l ≡ entries_of a.t =
    all_entries a.t c.from.result (entries_16 a.t c.well_formed.0) (c.from.ensures ∙ c.min.ensures) in
    c.from_residual.ensures
    ∙ sym (found_none 1 l (entry 0 0) i (sym told ∙ c.in_err-k.was))
    ∙ sym (standing_place a.c (entry 0 0) 1 l)
    ∙ ap (standing_from 1 a.c) all

pub returns : goal.returns
returns c =
    let a = c.args in
    let l : List Entry = take c.from.result a.t.entries in
    let i : ℕ = position_or_len (is_its a.c) l in
    let told : c.position.result ≡ cond (ltb i (length l)) (Some i) None =
    position_from_yields_List (is_its a.c) _ _ c.position.result c.position.ensures.ran
    (YieldsList-from_slice l cc) (λ x b q k. search (rules, tests)) in
    let all : l ≡ entries_of a.t =
    all_entries a.t c.from.result (entries_16 a.t c.well_formed.0) (c.from.ensures ∙ c.min.ensures) in
    sym (found_some 1 l (entry 0 0) i c.in_ok-k.k (sym told ∙ c.in_ok-k.was))
    ∙ sym (standing_place a.c (entry 0 0) 1 l)
    ∙ ap (standing_from 1 a.c) all

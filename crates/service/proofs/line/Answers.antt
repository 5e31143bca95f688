-- `service::line` meets its contract: its bytes are those of the fields, one behind the other.
-- Assumes nothing.
use mathlib.Core.Path.{refl, ◌∙◌}
use Rattle.shares.specs.Shares.{share_of}
use Rattle.service.specs.Page.{row}
use Rattle.service.proofs.Lines.{from_fields}
use Rattle.service.proofs.line.Goals as goal

pub returns : goal.returns
unfolding row share_of
returns c =
    let at = c.standing_of-at in
    let s = c.share_of-s in
    let a = c.args in
    let place = c.place_field-place in
    let value = c.value_field-value in
    let share = c.share_field-share in
    let mark = c.mark_of-mark in
    from_fields a.c at.result s.result a.busy c.two-channel.result place.result
    value.result share.result c.two-notes.result mark.result c.two-channel.ensures
    place.ensures value.ensures share.ensures mark.ensures c.two-notes.ensures
    ∙ rw (at.ensures, s.ensures) refl

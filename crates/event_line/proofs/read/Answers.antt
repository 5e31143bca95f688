-- `event_line::read` meets its contract: a line is read by its comma, its end and the digits between them, and any
-- other is of another form.
-- Assumes nothing.
use mathlib.Core.Path.{◌≡◌, sym, ap, ◌∙◌}
use mathlib.Core.Bool.{Bool, true, false}
use native.Mathlib.Omega.{arith}
use Rattle.loops.proofs.Tests.{impossible}
use Rattle.event_line.specs.Log.{meaning_of}
use Rattle.event_line.specs.Parse.{event_by}
use Rattle.event_line.proofs.Sizes.{bytes_7, text_now, said_short, said, said_none, said_long}
use Rattle.event_line.proofs.read.Goals as goal

pub returns-in_err-get : goal.returns-in_err-get
returns-in_err-get c =
    let l = c.args.l in
    let size = bytes_7 l c.well_formed.0 in
    c.from_residual.ensures ∙ ap meaning_of (sym (said_long l.bytes l.count size (omega (arith, c.in_err-get.ensures.lookup.0))))

pub returns-in-44 : goal.returns-in-44
returns-in-44 c =
    let s = c.in_ok-get.field-0.now in
    let h = c.in_ok-get.ensures.lookup in
    c.event_by.ensures
    ∙ ap meaning_of
    (ap (event_by _) c.number.ensures
    ∙ sym (said _ s (text_now c.args.l _ _ h.0.2 c.from.ensures) c.in-44.len_at_least (omega arith) (omega arith)
    (sym c.are_digits.ensures ∙ c.if-are_digits.true)))

pub returns-in_default : goal.returns-in_default
returns-in_default c = ap meaning_of (sym (said_short _ c.in_ok-get.field-0.now (text_now c.args.l _ _ c.in_ok-get.ensures.lookup.0.2 c.from.ensures) c.in_default.len_below))

pub returns-in_default-2 : goal.returns-in_default-2
returns-in_default-2 c =
    ap meaning_of (sym (said_none _ c.in_ok-get.field-0.now (text_now c.args.l _ _ c.in_ok-get.ensures.lookup.0.2 c.from.ensures) c.in-44.len_at_least (λ d e k.
    let z : ◌≡◌ {A = Bool} true false = sym k ∙ sym c.are_digits.ensures ∙ c.if-are_digits.false in
    impossible (cc))))

pub returns-in_default-3 : goal.returns-in_default-3
returns-in_default-3 c =
    ap meaning_of (sym (said_none _ c.in_ok-get.field-0.now (text_now c.args.l _ _ c.in_ok-get.ensures.lookup.0.2 c.from.ensures) c.in_default.len_at_least (λ d e k. absurd (omega arith))))

pub returns-in_default-4 : goal.returns-in_default-4
returns-in_default-4 c =
    ap meaning_of (sym (said_none _ c.in_ok-get.field-0.now (text_now c.args.l _ _ c.in_ok-get.ensures.lookup.0.2 c.from.ensures) c.in_default.len_at_least (λ d e k. absurd (omega arith))))

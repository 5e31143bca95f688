-- `fields::read`: the tests are those of the definition.
-- Assumes nothing.
use mathlib.Core.Path.{sym, ◌∙◌}
use Rattle.fields.specs.Line.{read, after_digit, after_comma}
use Rattle.fields.proofs.read.Goals as goal

pub returns-then-is_ascii_digit : goal.returns-then-is_ascii_digit
unfolding read after_digit
returns-then-is_ascii_digit c = rw (
  sym c.is_ascii_digit.ensures.value ∙ c.if-is_ascii_digit.true,
  c.min.ensures,
  c.from.ensures,
  c.from-then-is_ascii_digit.ensures,
)

pub returns-then-b-c : goal.returns-then-b-c
unfolding read after_comma
returns-then-b-c c = rw (sym c.is_ascii_digit.ensures.value ∙ c.if-is_ascii_digit.false, c.if-b-c.true)

pub returns : goal.returns
unfolding read
returns c = rw (sym c.is_ascii_digit.ensures.value ∙ c.if-is_ascii_digit.false, c.if-b-c.false)

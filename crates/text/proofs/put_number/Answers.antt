-- `text::put_number` puts the digits that the kit's `decimal` gives, which are the number's decimal text.
-- Assumes nothing.
use mathlib.Core.Path.{◌∙◌}
use Rattle.text.proofs.Digits.{twenty, decimal_digits}
use borrow.Author.Rules.{rules}
use Rattle.text.proofs.put_number.Goals as goal

pub returns : goal.returns
returns c =
    let d = c.decimal-k in
    rw (d.ensures.digits ∙ decimal_digits 20 _ _ (twenty _ _ (search rules) d.ensures.len) d.ensures.len)
    at c.put.ensures

-- `arranging::is_mip` meets its contract: a SysEx is a MIP message where that is its kind.
-- Assumes nothing.
use mathlib.Core.Path.{◌∙◌, sym}
use Rattle.arranging.proofs.MipKind.{mip_yes, mip_no}
use Rattle.arranging.proofs.is_mip.Goals as goal

pub returns-in-Mip : goal.returns-in-Mip
returns-in-Mip c = sym (mip_yes _ _ (sym c.kind_of.ensures ∙ c.in-Mip.is))

pub returns-in_default : goal.returns-in_default
returns-in_default c = sym (mip_no _ _ (λ e. c.in_default.not-Mip (c.kind_of.ensures ∙ e)))

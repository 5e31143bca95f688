-- `gains::gains_of` meets its contract: the test of the three, then the gains at the place of the pan.
-- Assumes nothing.
use Rattle.std.specs.Prelude.{if◌then◌else◌, Ok, Err}
use mathlib.Core.Path.{◌≡◌, refl, sym, subst, ◌∙◌}
use mathlib.Core.Bool.{Bool, true, false}
use mathlib.Core.Option.{Option, some, none}
use Prim.Native.Nat.{ℕ, ◌-◌}
use Rattle.gains.specs.declared.Gains.{Gains}
use Rattle.refusals.specs.declared.Refusal.TheVariants as refusal
use Rattle.gains.specs.Gains.{weight, panned, Near, is_out, silent, Gives, Answered}
use Rattle.gains.proofs.gains_of.Goals as goal

-- what is answered, by what the tests said
abbrev Told : ℕ → ℕ → ℕ → Option ℕ → Gains → Bool → Type 0
Told e v p n g t = (n ≡ (if t then some 24 else none)) × Gives t e v p g

refused : (e v p : ℕ) → is_out e v p ≡ true → Answered e v p (Err refusal.GainsOutOfRange)
refused e v p h = subst (Told e v p (some 24) silent) (sym h) (refl, refl)

given : (e v p q : ℕ) (g : Gains) → is_out e v p ≡ false → q ≡ panned p
    → Near e v (weight (126 - q)) g.left → Near e v (weight q) g.right → Answered e v p (Ok g)
given e v p q g h s left right =
    subst (Told e v p none g) (sym h) (
      refl,
      (
        subst (λ (x : ℕ). Near e v (weight (126 - x)) g.left) s left,
        subst (λ (x : ℕ). Near e v (weight x) g.right) s right,
      ),
    )

pub returns-then-is_out : goal.returns-then-is_out
returns-then-is_out c =
    (refused c.args.expression c.args.volume c.args.pan (sym c.is_out.ensures ∙ c.if-is_out.true), refl)

pub returns : goal.returns
returns c = (
  given c.args.expression c.args.volume c.args.pan c.place_of.result c.gains_at.result
      (sym c.is_out.ensures ∙ c.if-is_out.false) c.place_of.ensures.0 c.gains_at.ensures.0 c.gains_at.ensures.1,
  tt,
)

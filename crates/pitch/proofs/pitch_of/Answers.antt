-- `pitch::pitch_of` meets its contract: the test of the three, then octave and remainder of the raised
-- position (`Floor`).
-- Assumes nothing.
use Rattle.std.specs.Prelude.{Result, Ok}
use mathlib.Core.Path.{◌≡◌, refl, sym, ◌∙◌}
use mathlib.Core.Bool.{Bool, true, false, cond}
use Prim.Native.Nat.{ℕ, suc, ◌-◌, ◌/◌, ◌%◌, ◌^◌, ◌<◌}
use native.Mathlib.Omega.{arith}
use lib.Dec.{ltb}
use lib.IntN.{ℤ, pos, negsuc, sub_ℕ}
use lib.Signed.{mag}
use mir.Syntax.{w8}
use mir.Val.{to_z, of_z}
use mir.Facts.{to_z-of_z}
use Rattle.refusals.specs.declared.Refusal.{Refusal}
use Rattle.pitch.specs.declared.Pitch.{Pitch}
use Rattle.pitch.specs.Pitch.{entry, pitch_of, pitch_at}
use Rattle.pitch.proofs.Floor.{octave_of, rest_of}
use Rattle.pitch.proofs.pitch_of.Goals as goal

-- an octave is read back from its byte
read_back : (n : ℕ) → n < 2880 → to_z w8 (of_z w8 (sub_ℕ (n / 192) 2)) ≡ sub_ℕ (n / 192) 2
read_back n h = to_z-of_z {w = w8} {z = sub_ℕ (n / 192) 2} (record { sfits = go (ltb (n / 192) 2) refl })
  where
    go : (t : Bool) → ltb (n / 192) 2 ≡ t → mag (cond t (negsuc (2 - suc (n / 192))) (pos (n / 192 - 2))) < 2 ^ 7
    go true e = omega arith
    go false e = omega arith

made : (z : ℤ) (e n : ℕ) (p : ℤ) → n < 2880 → sub_ℕ n 384 ≡ p → z ≡ sub_ℕ (n / 192) 2 → e ≡ entry (n % 192)
    → ◌≡◌ {A = Result Pitch Refusal} (Ok (record { octave = to_z w8 (of_z w8 z); entry = e })) (Ok (pitch_at p))
unfolding pitch_at
made z e n p h q o r = rw (← q, octave_of n, rest_of n, o, r, read_back n h)

pub returns-then-is_out : goal.returns-then-is_out
unfolding pitch_of
returns-then-is_out c = simp (sym c.is_out.ensures ∙ c.if-is_out.true)

pub returns : goal.returns
unfolding pitch_of
returns c =
    let n : c.raised-n.result < 2880 = c.raised-n.ensures.1 in
    simp (sym c.is_out.ensures ∙ c.if-is_out.false)
    (made c.octave.result c.entry_at.result c.raised-n.result _ n
    c.raised-n.ensures.0 c.octave.ensures c.entry_at.ensures)

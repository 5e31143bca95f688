-- A higher position gives a higher pitch. Counted from two octaves below 0, four times the pitch is a natural number, 2
-- to the power of the octave times the entry. It rises within an octave since the entries do, and from one to the next
-- since each entry is from 65536 on and below twice that. The fractions are then compared crosswise. Last, the octaves
-- of the positions that calls give.
-- Assumes nothing.
use Rattle.std.specs.Prelude.{if◌then◌else◌, Ok, Err}
use mathlib.Core.Path.{◌≡◌, refl, sym, ap, subst}
use mathlib.Core.Bool.{Bool, true, false, true≢false, cond, ◌||◌}
use Prim.Native.Nat.{ℕ, zero, suc, ◌+◌, ◌-◌, ◌*◌, ◌/◌, ◌%◌, ◌^◌, ◌≤◌, ◌<◌}
use native.Mathlib.Nat.{mul_assoc, mul_comm, mul_left_comm, mul-le-mul, mul-lt-mul_of_pos_left}
use native.Mathlib.Nat.{mul-lt-mul_of_pos_right, lt_of_mul-lt-mul_right, mul-pos, pow-suc}
use native.Mathlib.Omega.{arith}
use lib.Dec.{T, ltb, ltb→lt, le→leb, eqb}
use lib.Ieee.{up, down}
use lib.Ieee.Fits.{down_pos}
use lib.IntN.{pos, negsuc, sub_ℕ}
use lib.Pow.{pow_pos, pow_mono}
use lib.Signed.{lt_z, ◌≤ℤ◌, ◌<ℤ◌, le_z_yes}
use borrow.Author.Tests.{ltb-true, ltb-false, le-ltb, eqb-true, eqb-false}
use Rattle.pitch.specs.declared.Pitch.{Pitch}
use Rattle.refusals.specs.declared.Refusal.TheVariants as refusal
use Rattle.pitch.specs.Pitch.{position, entry, pitch_at, is_out, pitch_of, pitch_in, Lower}
use Rattle.pitch.proofs.Roots.{entry_at, rises, from_first, to_twice}
use Rattle.pitch.proofs.Floor.{octave_of, rest_of, position_of, raised_below}

-- ---- the entries rise, from 65536 on, and stay below twice that
next : (i : ℕ) → i < 191 → entry i < entry (suc i)
next i h = rw (entry_at i (omega arith), entry_at (suc i) (omega arith)) (rises i h)

pub entries_rise : (i j : ℕ) → i < j → j < 192 → entry i < entry j
entries_rise i zero h l = absurd (omega arith)
entries_rise i (suc j) h l = go (eqb i j) refl (λ k. entries_rise i j k (omega arith))
  where
    go : (b : Bool) → eqb i j ≡ b → (i < j → entry i < entry j) → entry i < entry (suc j)
    go true e ih = let q = eqb-true i j e in subst (λ (x : ℕ). entry x < entry (suc j)) (sym q) (next j (omega arith))
    go false e ih =
        let q = eqb-false i j e in
        let k : i < j = omega (arith, q) in
        let a = ih k in
        let b = next j (omega arith) in
        omega arith

at_least : (i : ℕ) → i < 192 → 65536 ≤ entry i
at_least i h = rw (entry_at i h) (from_first i h)

below : (i : ℕ) → i < 192 → entry i < 65536 * 2
below i h = rw (entry_at i h) (to_twice i h)

-- ---- positions counted from 384 below 0: four times the pitch
abbrev fourfold : ℕ → ℕ
fourfold n = 2 ^ (n / 192) * entry (n % 192)

rising : (n m : ℕ) → n < m → fourfold n < fourfold m
rising n m h = go (ltb (n / 192) (m / 192)) refl
  where
    go : (b : Bool) → ltb (n / 192) (m / 192) ≡ b → fourfold n < fourfold m
    go true e =
        let o = ltb-true (n / 192) (m / 192) e in
        let a : 2 ^ (n / 192) * entry (n % 192) < 2 ^ (n / 192) * (65536 * 2) =
        mul-lt-mul_of_pos_left (below (n % 192) (omega arith)) (pow_pos (n / 192)) in
        let b : 2 ^ suc (n / 192) ≤ 2 ^ (m / 192) = pow_mono o in
        let c : 2 ^ suc (n / 192) * 65536 ≤ 2 ^ (m / 192) * entry (m % 192) =
        mul-le-mul b (at_least (m % 192) (omega arith)) in
        let d : 2 ^ suc (n / 192) ≡ 2 ^ (n / 192) * 2 = pow-suc 2 (n / 192) in
        omega arith
    go false e =
        let o = ltb-false (n / 192) (m / 192) e in
        let q : n / 192 ≡ m / 192 = omega arith in
        let r : n % 192 < m % 192 = omega arith in
        let l : 2 ^ (m / 192) * entry (n % 192) < 2 ^ (m / 192) * entry (m % 192) =
        mul-lt-mul_of_pos_left (entries_rise (n % 192) (m % 192) r (omega arith)) (pow_pos (m / 192)) in
        subst (λ (x : ℕ). 2 ^ x * entry (n % 192) < 2 ^ (m / 192) * entry (m % 192)) (sym q) l

quarter_up : (o x : ℕ) → x ≡ o → 2 ^ x * 4 ≡ 2 ^ suc (suc o) * 1
quarter_up o x e =
    let a = pow-suc 2 o in
    let b = pow-suc 2 (suc o) in
    rw e (omega arith)

-- 2 to the power of an octave, as a fraction
quarter : (o : ℕ) → up (sub_ℕ o 2) * 4 ≡ 2 ^ o * down (sub_ℕ o 2)
quarter zero = refl
quarter (suc zero) = refl
quarter (suc (suc o)) =
    let h : 2 ≤ suc (suc o) = omega arith in
    rw (le-ltb (suc (suc o)) 2 h) (quarter_up o (suc (suc o) - 2) (omega arith))

-- fractions u / w and u' / w' that are a quarter of M and M'
crossed : (e u w M e' u' w' M' : ℕ) → 0 < w → 0 < w' → u * 4 ≡ M * w
    → u' * 4 ≡ M' * w' → M * e < M' * e' → e * u * w' < e' * u' * w
crossed e u w M e' u' w' M' W W' p p' h =
    lt_of_mul-lt-mul_right 4 (
    let l : M * e * (w * w') < M' * e' * (w * w') = mul-lt-mul_of_pos_right h (mul-pos W W') in
    let a : e * u * w' * 4 ≡ u * 4 * (e * w') = simp (mul_assoc, mul_comm, mul_left_comm) in
    let b : u * 4 * (e * w') ≡ M * w * (e * w') = ap (λ (z : ℕ). z * (e * w')) p in
    let c : M * w * (e * w') ≡ M * e * (w * w') = simp (mul_assoc, mul_comm, mul_left_comm) in
    let a' : e' * u' * w * 4 ≡ u' * 4 * (e' * w) = simp (mul_assoc, mul_comm, mul_left_comm) in
    let b' : u' * 4 * (e' * w) ≡ M' * w' * (e' * w) = ap (λ (z : ℕ). z * (e' * w)) p' in
    let c' : M' * w' * (e' * w) ≡ M' * e' * (w * w') = simp (mul_assoc, mul_comm, mul_left_comm) in
    omega arith)

lower : (p q : Pitch) (M M' : ℕ) → up p.octave * 4 ≡ M * down p.octave
    → up q.octave * 4 ≡ M' * down q.octave → M * p.entry < M' * q.entry → Lower p q
lower p q M M' a b h =
    crossed p.entry (up p.octave) (down p.octave) M q.entry (up q.octave)
    (down q.octave) M' (down_pos p.octave) (down_pos q.octave) a b h

higher_raised : (n m : ℕ) → n < m → Lower (pitch_at (sub_ℕ n 384)) (pitch_at (sub_ℕ m 384))
unfolding pitch_at
higher_raised n m h =
    rw (octave_of n, octave_of m, rest_of n, rest_of m)
    (lower (record { octave = sub_ℕ (n / 192) 2; entry = entry (n % 192) })
    (record { octave = sub_ℕ (m / 192) 2; entry = entry (m % 192) }) (2 ^ (n / 192))
    (2 ^ (m / 192)) (quarter (n / 192)) (quarter (m / 192)) (rising n m h))

-- the order of what is counted from 384 below 0
ordered : (n m : ℕ) → sub_ℕ n 384 <ℤ sub_ℕ m 384 → n < m
ordered n m h = go (ltb n 384) (ltb m 384) refl refl h.lt
  where
    go : (a b : Bool) → ltb n 384 ≡ a → ltb m 384 ≡ b
        → T (lt_z (cond a (negsuc (384 - suc n)) (pos (n - 384))) (cond b (negsuc (384 - suc m)) (pos (m - 384))))
        → n < m
    go true true x y t =
        let k : 384 - suc m < 384 - suc n = ltb→lt _ _ t in
        let i = ltb-true n 384 x in
        let j = ltb-true m 384 y in
        omega arith
    go true false x y t = let i = ltb-true n 384 x in let j = ltb-false m 384 y in omega arith
    go false true x y t = absurd t
    go false false x y t =
        let k : n - 384 < m - 384 = ltb→lt _ _ t in
        let i = ltb-false n 384 x in
        let j = ltb-false m 384 y in
        omega arith

-- ---- calls
within : (k s b : ℕ) → is_out k s b ≡ false → (k ≤ 127) × (s ≤ 24) × (b ≤ 16383)
within k s b e = go (ltb 127 k) (ltb 24 s) (ltb 16383 b) refl refl refl e
  where
    go : (x y z : Bool) → ltb 127 k ≡ x → ltb 24 s ≡ y → ltb 16383 b ≡ z
        → (x || (y || z)) ≡ false → (k ≤ 127) × (s ≤ 24) × (b ≤ 16383)
    go false false false p q r t = (ltb-false 127 k p, ltb-false 24 s q, ltb-false 16383 b r)
    go true y z p q r t = absurd (true≢false t)
    go false true z p q r t = absurd (true≢false t)
    go false false true p q r t = absurd (true≢false t)

-- R11.4: of two calls that are not refused, the one of higher position gives the higher pitch
pub higher_position_higher_pitch : (k s b k' s' b' : ℕ) → is_out k s b ≡ false
    → is_out k' s' b' ≡ false → position k s b <ℤ position k' s' b'
    → Lower (pitch_in (pitch_of k s b)) (pitch_in (pitch_of k' s' b'))
unfolding pitch_of
higher_position_higher_pitch k s b k' s' b' e e' h =
    let w = within k s b e in
    let w' = within k' s' b' e' in
    let n = 384 + 16 * k - 16 * s + 16 * s * b / 8192 in
    let n' = 384 + 16 * k' - 16 * s' + 16 * s' * b' / 8192 in
    let p = position_of k s b w.1 in
    let p' = position_of k' s' b' w'.1 in
    rw (e, e', ← p, ← p') (higher_raised n n' (ordered n n' (rw (← p, ← p') at h)))

-- R11.3: the octave is from −2 to 12, the refused call's 0 included
in_range : (o : ℕ) → o < 15 → (negsuc 1 ≤ℤ sub_ℕ o 2) × (sub_ℕ o 2 ≤ℤ pos 12)
in_range o h = go (ltb o 2) refl
  where
    go : (t : Bool) → ltb o 2 ≡ t → (negsuc 1 ≤ℤ cond t (negsuc (2 - suc o)) (pos (o - 2)))
        × (cond t (negsuc (2 - suc o)) (pos (o - 2)) ≤ℤ pos 12)
    go true e = (le_z_yes (le→leb (2 - suc o) 1 (omega arith)), le_z_yes tt)
    go false e = (le_z_yes tt, le_z_yes (le→leb (o - 2) 12 (omega arith)))

pub octave_range : (k s b : ℕ)
    → (negsuc 1 ≤ℤ (pitch_in (pitch_of k s b)).octave) × ((pitch_in (pitch_of k s b)).octave ≤ℤ pos 12)
unfolding pitch_of pitch_at
octave_range k s b = go (is_out k s b) refl
  where
    go : (t : Bool) → is_out k s b ≡ t
        → (negsuc 1 ≤ℤ (pitch_in (if t then Err refusal.PitchOutOfRange else Ok (pitch_at (position k s b)))).octave)
        × ((pitch_in (if t then Err refusal.PitchOutOfRange else Ok (pitch_at (position k s b)))).octave ≤ℤ pos 12)
    go true e = (le_z_yes tt, le_z_yes tt)
    go false e =
        let w = within k s b e in
        let n = 384 + 16 * k - 16 * s + 16 * s * b / 8192 in
        let l : n < 2880 =
        raised_below k (16 * s) b (omega (arith, w.0)) (omega (arith, w.1)) (omega (arith, w.2)) in
        rw (← position_of k s b w.1, octave_of n) (in_range (n / 192) (omega arith))

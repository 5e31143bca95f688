-- What rounding to an `f32` adds to an error: at most 2 ^ 125 of the format's smallest values, 2 ^ -149 each, for a
-- fraction that is at most 1; and what is rounded is at most 1 again. A quotient of whole numbers is rounded once. In a
-- product of two such fractions the errors add up (`Frac`), and it is rounded once more. So a gain's three quotients
-- and two products come to 5 * 2 ^ 125 of these values, three ten-millionths.
-- Assumes nothing.
use mathlib.Core.Path.{◌≡◌, refl, sym, ap, ◌∙◌, subst}
use mathlib.Core.Logic.{◌⊎◌, inl, inr}
use mathlib.Core.Bool.{Bool, true, false, true≢false, not, cond}
use Prim.Native.Nat.{ℕ, zero, suc, ◌+◌, ◌-◌, ◌*◌, ◌/◌, ◌%◌, ◌^◌, ◌≤◌, ◌<◌}
use Prim.Native.Nat.{compare, Ordering}
use native.Mathlib.Nat.{le_trans, le_of_eq, lt_of_le_of_lt, mul_comm, mul_assoc, mul_left_comm, mul-mul-mul_comm}
use native.Mathlib.Nat.{add-mul, zero-mul, mul-zero, suc-mul, mul-pos, mul-le-mul, mul-le-mul_left, mul-le-mul_right}
use native.Mathlib.Nat.{le_of_mul-le-mul_right, mul-lt-mul_of_pos_right, mod-lt, div-add-mod', div-lt_iff_lt-mul}
use native.Mathlib.Omega.{arith}
use lib.Dec.{T, is_le, compare_is_eq, eqb, leb→le, nleb→lt, eqb→eq, eqb_refl, lit<}
use lib.Arith.{lt_of_le-ne}
use lib.Pow.{pow_pos, pow_mono, pow-add}
use lib.Ieee.{Float, nan, inf, fin, binary32, up, down, size, nearest, round, mul, div, of_int}
use lib.Ieee.Digits.{size-le}
use lib.Ieee.Fits.{up_pos, down_pos}
use lib.IntN.{ℤ, pos as plus}
use lib.Ieee.Exact.{HasValue}
use lib.Ieee.Back.{round_whole}
use lib.Ieee.Nearest.{closest, closest_mono}
use lib.Ieee.Order.{drop}
use lib.Ieee.Scale.{grid, round_val, round_same}
use Rattle.gains.specs.Within.{Within, AtMost1, Is0}
use Rattle.gains.proofs.Frac.{Close, product, rounded}

-- ---- what `compare` says
abbrev Cmp : Ordering → ℕ → ℕ → Type 0
Cmp Ordering.lt a b = a < b
Cmp Ordering.eq a b = a ≡ b
Cmp Ordering.gt a b = b < a

cmp : (a b : ℕ) → Cmp (compare a b) a b
cmp a b = go (compare a b) (leb→le a b) (nleb→lt a b) (eqb→eq a b)
    (λ (e : a ≡ b). subst (λ (x : ℕ). T (eqb a x)) e (eqb_refl a))
  where
    go : (o : Ordering) → (T (is_le o) → a ≤ b) → (T (not (is_le o)) → b < a)
        → (T (compare_is_eq o) → a ≡ b) → (a ≡ b → T (compare_is_eq o)) → Cmp o a b
    go Ordering.lt h k e n = lt_of_le-ne (h tt) n
    go Ordering.eq h k e n = e tt
    go Ordering.gt h k e n = k tt

-- ---- the nearest whole number is at most a half away
abbrev Half : ℕ → ℕ → ℕ → Type 0
Half z a b = (z * b * 2 ≤ a * 2 + b) × (a * 2 ≤ z * b * 2 + b)

same : (q r a b : ℕ) → q * b + r ≡ a → r * 2 ≤ b → Half q a b
same q r a b e h = (omega arith, omega arith)

next : (q r a b : ℕ) → q * b + r ≡ a → r < b → b ≤ r * 2 → Half (q + 1) a b
next q r a b e l h =
    let s : (q + 1) * b ≡ q * b + b = add-mul q 1 b ∙ ap (λ (z : ℕ). q * b + z) (omega arith) in
    (omega arith, omega arith)

zero_or_one : (t : ℕ) → t < 2 → (t ≡ 0) ⊎ (t ≡ 1)
zero_or_one zero h = inl refl
zero_or_one (suc t) h = inr (omega arith)

parity : (q : ℕ) → (q + q % 2 ≡ q) ⊎ (q + q % 2 ≡ q + 1)
parity q = elim (zero_or_one (q % 2) (omega arith)) [ inl e ↦ inl (omega arith) | inr e ↦ inr (omega arith) ]

nearest_half : (q r a b : ℕ) (o : Ordering) → q * b + r ≡ a → r < b → Cmp o (r * 2) b → Half (nearest q o) a b
nearest_half q r a b Ordering.lt e l h = same q r a b e (omega arith)
nearest_half q r a b Ordering.eq e l h =
    elim (parity q) [
      | inl z ↦ subst (λ (n : ℕ). Half n a b) (sym z) (same q r a b e (omega arith))
      | inr z ↦ subst (λ (n : ℕ). Half n a b) (sym z) (next q r a b e l (omega arith))
    ]
nearest_half q r a b Ordering.gt e l h = subst (λ (n : ℕ). Half n a b) (omega arith) (next q r a b e l (omega arith))

closest_half : (a b : ℕ) → 0 < b → Half (closest a b) a b
closest_half a b pos =
    nearest_half (a / b) (a % b) a b (compare (a % b * 2) b) (div-add-mod' a b) (mod-lt a pos) (cmp (a % b * 2) b)

-- ---- a fraction that is at most 1, rounded: in units of 2 ^ -149
abbrev pub U : ℕ
U = 2 ^ 149

abbrev pub H : ℕ
H = 2 ^ 125

-- `omega` refuses numbers of more than 38 digits, so what it is to prove of U and H is proved of any such numbers
halved : (N K a c k z : ℕ) → 2 ^ k ≤ K * 2 → Half z (a * N) (c * 2 ^ k) → Close N (z * 2 ^ k) a c K
halved N K a c k z few half =
    let e : z * 2 ^ k * c ≡ z * (c * 2 ^ k) = simp (mul_assoc, mul_comm, mul_left_comm) in
    let m : c * 2 ^ k ≤ c * (K * 2) = mul-le-mul_left c few in
    let e2 : c * (K * 2) ≡ K * c * 2 = simp (mul_assoc, mul_comm, mul_left_comm) in
    let l = half.0 in
    let r = half.1 in
    record { over = omega arith; under = omega arith }

-- at most 126 digits are dropped
dropped : (s : ℕ) → s ≤ 150 → s - 24 ≤ 126
dropped s h = omega arith

few : (a c : ℕ) → 0 < c → a ≤ c → drop 24 (a * U) c ≤ 126
few a c pos h =
    dropped (size (a * U / c)) (size-le (a * U / c) 150 ((div-lt_iff_lt-mul pos).1
    (lt_of_le_of_lt (mul-le-mul_right U h)
    (subst (λ (z : ℕ). z < 2 ^ 150 * c) (mul_comm U c) (mul-lt-mul_of_pos_right (lit< tt) pos)))))

grid_close : (a c : ℕ) → 0 < c → a ≤ c → Close U (grid binary32 a c) a c H
grid_close a c pos h =
    let k = drop 24 (a * U) c in
    halved U H a c k (closest (a * U) (c * 2 ^ k)) (pow_mono (few a c pos h))
    (closest_half (a * U) (c * 2 ^ k) (mul-pos pos (pow_pos k)))

-- Rounding keeps the order, and with k digits dropped 1 is still a whole number, q, of what is kept: so that no
-- fraction up to 1 is rounded to more
whole : (n : ℕ) → closest n 1 ≡ n
whole n = let h = closest_half n 1 (omega arith) in let l = h.0 in let r = h.1 in omega arith

fits_in : (N a c k q : ℕ) → a ≤ c → q * 2 ^ k ≡ N → a * N * 1 ≤ q * (c * 2 ^ k)
fits_in N a c k q h e =
    let t : a * N ≤ c * N = mul-le-mul_right N h in
    let u : c * N ≡ q * (c * 2 ^ k) = ap (λ (n : ℕ). c * n) (sym e) ∙ mul_left_comm c q (2 ^ k) in
    omega arith

capped_by : (N a c k q : ℕ) → 0 < c → a ≤ c → q * 2 ^ k ≡ N → closest (a * N) (c * 2 ^ k) * 2 ^ k ≤ N
capped_by N a c k q pos h e =
    let m = closest_mono (a * N) (c * 2 ^ k) q 1 (mul-pos pos (pow_pos k)) (lit< tt) (fits_in N a c k q h e) in
    le_trans (mul-le-mul_right (2 ^ k) (subst (λ (z : ℕ). closest (a * N) (c * 2 ^ k) ≤ z) (whole q) m)) (le_of_eq e)

rest : (k : ℕ) → k ≤ 126 → 149 - k + k ≡ 149
rest k h = omega arith

grid_capped : (a c : ℕ) → 0 < c → a ≤ c → grid binary32 a c ≤ U
grid_capped a c pos h =
    let k = drop 24 (a * U) c in
    capped_by U a c k (2 ^ (149 - k)) pos h
    (sym (pow-add 2 (149 - k) k) ∙ ap (λ (n : ℕ). 2 ^ n) (rest k (few a c pos h)))

-- and 0 is rounded to 0
no_more : (N a c k : ℕ) → 0 < c → a ≡ 0 → closest (a * N) (c * 2 ^ k) * 2 ^ k ≡ 0
no_more N a c k pos e =
    let none : a * N * 1 ≤ 0 * (c * 2 ^ k) = subst (λ (n : ℕ). n * N * 1 ≤ 0 * (c * 2 ^ k)) (sym e) (omega arith) in
    let m : closest (a * N) (c * 2 ^ k) ≤ 0 =
    subst (λ (z : ℕ). closest (a * N) (c * 2 ^ k) ≤ z) (whole 0)
    (closest_mono (a * N) (c * 2 ^ k) 0 1 (mul-pos pos (pow_pos k)) (lit< tt) none) in
    let z : closest (a * N) (c * 2 ^ k) ≡ 0 = omega (arith, m) in
    ap (λ (n : ℕ). n * 2 ^ k) z ∙ zero-mul (2 ^ k)

-- ---- x is near a / c: its value is some number of units, at most those of 1 and none where a is 0, that is within E
-- units of a / c
pub record CloseTo (x : Float) (a c E : ℕ) : Type 0 where
  pub g : ℕ
  pub value : HasValue x false g U
  pub capped : g ≤ U
  pub silent : a ≡ 0 → g ≡ 0
  pub close : Close U g a c E

pub round_close : (a c : ℕ) → 0 < c → a ≤ c → CloseTo (round binary32 false a c) a c H
round_close a c pos h =
    let m = grid_capped a c pos h in
    record {
      g = grid binary32 a c;
      value = round_val binary32 a c (lt_of_le_of_lt m (lit< tt));
      capped = m;
      silent = no_more U a c (drop 24 (a * U) c) pos;
      close = grid_close a c pos h;
    }

-- ---- an operation's result is its exact result, rounded, by any fractions that its operands equal
mul_at : (x y : Float) (a c b d : ℕ) → 0 < c → 0 < d → HasValue x false a c
    → HasValue y false b d → mul binary32 x y ≡ round binary32 false (a * b) (c * d)
unfolding mul
mul_at nan y a c b d C D h k = absurd h
mul_at (inf s) y a c b d C D h k = absurd h
mul_at (fin s m e) nan a c b d C D h k = absurd k
mul_at (fin s m e) (inf t) a c b d C D h k = absurd k
mul_at (fin true m e) (fin t n f) a c b d C D h k = let z : true ≡ false = h.0 in absurd (true≢false z)
mul_at (fin false m e) (fin true n f) a c b d C D h k = let z : true ≡ false = k.0 in absurd (true≢false z)
mul_at (fin false m e) (fin false n f) a c b d C D h k =
    round_same binary32 false (m * up e * (n * up f))
    (down e * down f) (a * b) (c * d) (mul-pos (down_pos e) (down_pos f)) (mul-pos C D)
    (mul-mul-mul_comm (m * up e) (n * up f) c d ∙ ap (λ (z : ℕ). z * (n * up f * d)) h.1
    ∙ ap (λ (z : ℕ). a * down e * z) k.1 ∙ mul-mul-mul_comm a (down e) b (down f))

-- a product is 0 where a factor is
either_0 : (a b g h : ℕ) → (a ≡ 0 → g ≡ 0) → (b ≡ 0 → h ≡ 0) → a * b ≡ 0 → g * h ≡ 0
either_0 zero b g h p q e = ap (λ (n : ℕ). n * h) (p refl) ∙ zero-mul h
either_0 (suc a) b g h p q e =
    ap (λ (n : ℕ). g * n) (q (let s : suc a * b ≡ a * b + b = suc-mul a b in omega arith)) ∙ mul-zero g

pub mul_close : (x y : Float) (a c E b d F : ℕ) → 0 < c → 0 < d → a ≤ c → b ≤ d
    → CloseTo x a c E → CloseTo y b d F → CloseTo (mul binary32 x y) (a * b) (c * d) (E + F + H)
mul_close x y a c E b d F C D A B p q =
    let g = p.g in
    let h = q.g in
    let r = round_close (g * h) (U * U) (lit< tt) (mul-le-mul p.capped q.capped) in
    subst (λ (z : Float). CloseTo z (a * b) (c * d) (E + F + H))
    (sym (mul_at x y g U h U (lit< tt) (lit< tt) p.value q.value))
    (record {
      g = r.g;
      value = r.value;
      capped = r.capped;
      silent = λ e. r.silent (either_0 a b g h p.silent q.silent e);
      close = rounded U (g * h) (a * b) (c * d) (E + F) r.g H (lit< tt)
          (product U a c E g b d F h A p.capped B q.capped p.close q.close) r.close;
    })

-- a whole number, at most 2 ^ 24, over a whole number that is a value of the format
div_at : (x : Float) (n f m : ℕ) (e : ℤ) → HasValue x false n 1 → T (not (eqb m 0)) → 0 < f
    → HasValue (fin false m e) false f 1 → div binary32 x (fin false m e) ≡ round binary32 false n f
unfolding div
div_at nan n f m e h nz F k = absurd h
div_at (inf s) n f m e h nz F k = absurd h
div_at (fin true l d) n f m e h nz F k = let z : true ≡ false = h.0 in absurd (true≢false z)
div_at (fin false l d) n f m e h nz F k = go (eqb m 0) nz
  where
    whole : l * up d * down e * f ≡ n * (m * up e * down d)
    whole =
        let x : l * up d * 1 ≡ n * down d = h.1 in
        let y : m * up e * 1 ≡ f * down e = k.1 in
        let x2 : l * up d ≡ n * down d = omega arith in
        let y2 : m * up e ≡ f * down e = omega arith in
        let c : n * down d * down e * f ≡ n * (f * down e * down d) = simp (mul_assoc, mul_comm, mul_left_comm) in
        ap (λ (z : ℕ). z * down e * f) x2 ∙ c ∙ ap (λ (z : ℕ). n * (z * down d)) (sym y2)

    above : 0 < m * up e
    above =
        let y : m * up e * 1 ≡ f * down e = k.1 in
        let z : 0 < f * down e = mul-pos F (down_pos e) in
        omega arith

    go : (b : Bool) → T (not b)
        → cond b (cond (eqb l 0) nan (inf false)) (round binary32 false (l * up d * down e) (m * up e * down d))
        ≡ round binary32 false n f
    go true t = absurd t
    go false t =
        round_same binary32 false (l * up d * down e) (m * up e * down d) n f (mul-pos above (down_pos d)) F whole

pub quotient : (n f m : ℕ) (e : ℤ) → n ≤ 2 ^ 24 → n ≤ f → T (not (eqb m 0)) → 0 < f
    → HasValue (fin false m e) false f 1 → CloseTo (div binary32 (of_int binary32 (plus n)) (fin false m e)) n f H
unfolding of_int
quotient n f m e fits below nz F k =
    subst (λ (z : Float). CloseTo z n f H)
    (sym (div_at (round binary32 false n 1) n f m e (round_whole binary32 false n fits) nz F k))
    (round_close n f F below)

-- ---- what a caller is told
told : (N K M m u w g a c : ℕ) → 0 < N → K * M ≤ N → m * u * N ≡ g * w → Close N g a c K
    → (m * u * c * M ≤ (a * M + c) * w) × (a * M * w ≤ (m * u * M + w) * c)
told N K M m u w g a c pos k v x = (
  le_of_mul-le-mul_right (
      let o : g * c * (M * w) ≤ a * N * (M * w) + K * c * (M * w) =
      le_trans (mul-le-mul_right (M * w) x.over) (le_of_eq (add-mul (a * N) (K * c) (M * w))) in
      let s : K * M * (c * w) ≤ N * (c * w) = mul-le-mul_right (c * w) k in
      let c1 : m * u * c * M * N ≡ m * u * N * (c * M) = simp (mul_assoc, mul_comm, mul_left_comm) in
      let c2 : g * w * (c * M) ≡ g * c * (M * w) = simp (mul_assoc, mul_comm, mul_left_comm) in
      let c3 : m * u * N * (c * M) ≡ g * w * (c * M) = ap (λ (z : ℕ). z * (c * M)) v in
      let e2 : K * c * (M * w) ≡ K * M * (c * w) = mul-mul-mul_comm K c M w in
      let e3 : (a * M + c) * w * N ≡ a * N * (M * w) + N * (c * w) =
      mul_assoc (a * M + c) w N ∙ (add-mul (a * M) c (w * N) ∙ simp (mul_assoc, mul_comm, mul_left_comm)) in
      omega arith) pos,
  le_of_mul-le-mul_right (
      let o : a * N * (M * w) ≤ g * c * (M * w) + K * c * (M * w) =
      le_trans (mul-le-mul_right (M * w) x.under) (le_of_eq (add-mul (g * c) (K * c) (M * w))) in
      let s : K * M * (c * w) ≤ N * (c * w) = mul-le-mul_right (c * w) k in
      let e0 : a * M * w * N ≡ a * N * (M * w) = simp (mul_assoc, mul_comm, mul_left_comm) in
      let e2 : K * c * (M * w) ≡ K * M * (c * w) = mul-mul-mul_comm K c M w in
      let c1 : m * u * M * (c * N) ≡ m * u * N * (c * M) = simp (mul_assoc, mul_comm, mul_left_comm) in
      let c2 : g * w * (c * M) ≡ g * c * (M * w) = simp (mul_assoc, mul_comm, mul_left_comm) in
      let c3 : m * u * N * (c * M) ≡ g * w * (c * M) = ap (λ (z : ℕ). z * (c * M)) v in
      let c4 : w * (c * N) ≡ N * (c * w) = simp (mul_comm, mul_left_comm) in
      let e3 : (m * u * M + w) * c * N ≡ m * u * M * (c * N) + w * (c * N) =
      mul_assoc (m * u * M + w) c N ∙ add-mul (m * u * M) w (c * N) in
      omega arith) pos,
)

pub within : (M : ℕ) (x : Float) (a c E : ℕ) → E * M ≤ U → CloseTo x a c E → Within M x a c
within M nan a c E k p = absurd p.value
within M (inf s) a c E k p = absurd p.value
within M (fin s m e) a c E k p =
    let t = told U E M m (up e) (down e) p.g a c (lit< tt) k p.value.1 p.close in
    (p.value.0, t.0, t.1)

not_above : (N m u w g : ℕ) → 0 < N → m * u * N ≡ g * w → g ≤ N → m * u ≤ w
not_above N m u w g pos e h =
    le_of_mul-le-mul_right (le_trans (le_of_eq e) (le_trans (mul-le-mul_right w h) (le_of_eq (mul_comm N w)))) pos

pub at_most_1 : (x : Float) (a c E : ℕ) → CloseTo x a c E → AtMost1 x
at_most_1 nan a c E p = absurd p.value
at_most_1 (inf s) a c E p = absurd p.value
at_most_1 (fin s m e) a c E p = not_above U m (up e) (down e) p.g (lit< tt) p.value.1 p.capped

no_digits : (N m u w g : ℕ) → 0 < N → 0 < u → m * u * N ≡ g * w → g ≡ 0 → m ≡ 0
no_digits N zero u w g pos up e z = refl
no_digits N (suc m) u w g pos up e z =
    let n : suc m * u * N ≡ 0 = e ∙ ap (λ (n : ℕ). n * w) z ∙ zero-mul w in
    let p : 0 < suc m * u * N = mul-pos (mul-pos (omega arith) up) pos in
    absurd (omega arith)

pub is_0 : (x : Float) (a c E : ℕ) → CloseTo x a c E → a ≡ 0 → Is0 x
is_0 nan a c E p e = absurd p.value
is_0 (inf s) a c E p e = absurd p.value
is_0 (fin s m k) a c E p e = no_digits U m (up k) (down k) p.g (lit< tt) (up_pos k) p.value.1 (p.silent e)

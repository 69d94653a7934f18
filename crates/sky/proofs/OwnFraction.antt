-- A float that binary64 holds is its own value, rounded. Assumes nothing.
use mathlib.Core.Path.{◌≡◌, refl, sym, ap, ◌∙◌}
use mathlib.Core.Bool.{Bool, cond, ◌&&◌}
use Prim.Native.Nat.{ℕ, zero, suc, ◌+◌, ◌-◌, ◌*◌, ◌/◌, ◌%◌, ◌^◌, ◌≤◌, ◌<◌}
use native.Mathlib.Nat.{mul_assoc, mul_right_comm, mul-one, one-mul, lt_of_lt_of_le, lt_of_le_of_lt, le_refl, le_of_eq, lt_irrefl, lt_of_not-le, le_of_suc-le-suc, mul-lt-mul_of_pos_right}
use native.Mathlib.Omega.{arith}
use lib.IntN.{ℤ, pos, negsuc}
use lib.Dec.{T, leb, ltb, eqb, leb→le, ltb→lt, lit<}
use lib.Pow.{pow-add, pow_pos, pow_mono, pow-lt, shl_lt}
use lib.Ieee.{Float, nan, inf, fin, binary64, up, down, size, round, fits, of_bits, to_bits, top, hid}
use lib.Ieee.Fits.{down_pos, and_l, and_r, round-fits}
use lib.Ieee.Bits.{of_bits-to_bits}
use lib.Ieee.Exact.{HasValue, round_exact}
use lib.Ieee.Nearest.{div_same}

-- ---- a float is known by its value

-- the pattern of ±n of the smallest values
abbrev pattern : Bool → ℕ → ℕ
pattern s n = cond s (top binary64) 0 + (size n - 53) * hid binary64 + n / 2 ^ (size n - 53)

pattern_of : (x : Float) (s : Bool) (a c : ℕ) → 0 < c → HasValue x s a c → to_bits binary64 x ≡ pattern s (a * 2 ^ 1074 / c)
unfolding to_bits
pattern_of nan s a c C v = absurd v
pattern_of (inf t) s a c C v = absurd v
pattern_of (fin t m e) s a c C v =
    let n : m * up e * 2 ^ 1074 / down e ≡ a * 2 ^ 1074 / c =
    div_same (m * up e * 2 ^ 1074) (down e) (a * 2 ^ 1074) c (down_pos e) C
    (mul_right_comm (m * up e) (2 ^ 1074) c ∙ ap (λ (k : ℕ). k * 2 ^ 1074) v.1 ∙ mul_right_comm a (down e) (2 ^ 1074)) in
    λ i. pattern (v.0 i) (n i)

one_float : (x y : Float) (s : Bool) (a c : ℕ) → 0 < c → T (fits binary64 x) → T (fits binary64 y) → HasValue x s a c → HasValue y s a c → x ≡ y
one_float x y s a c C f g v w =
    sym (of_bits-to_bits binary64 x f) ∙ ap (λ (b : ℕ). of_bits binary64 b) (pattern_of x s a c C v ∙ sym (pattern_of y s a c C w)) ∙ of_bits-to_bits binary64 y g

-- ---- a float that fits is its own rounded fraction

-- m times 2 ^ j of the smallest values
whole_units : (s : Bool) (m : ℕ) (e : ℤ) (j : ℕ) → m < 2 ^ 53 → m * 2 ^ j < 2 ^ 2098 → 2 ^ j * down e ≡ up e * 2 ^ 1074 → HasValue (round binary64 s (m * up e) (down e)) s (m * up e) (down e)
whole_units s m e j a b h =
    round_exact binary64 s (m * up e) (down e) m j (down_pos e) a b
    (mul_assoc m (up e) (2 ^ 1074) ∙ ap (λ (k : ℕ). m * k) (sym h) ∙ sym (mul_assoc m (2 ^ j) (down e)))

-- what `fits` says of a number that is not zero
pub fits_parts : (s : Bool) (m : ℕ) (e : ℤ) → T (fits binary64 (fin s (suc m) e)) → (suc m < 2 ^ 53) × (down e ≤ 2 ^ 1074) × (suc m * up e < 2 ^ 1024 * down e)
unfolding fits
fits_parts s m e f =
    let last = and_l (eqb (suc m % 2) 1 && ltb (suc m) (2 ^ 53) && leb (down e) (2 ^ 1074)) (ltb (suc m * up e) (2 ^ 1024 * down e)) f in
    let first = and_l (eqb (suc m % 2) 1 && ltb (suc m) (2 ^ 53)) (leb (down e) (2 ^ 1074)) last in (
      ltb→lt (suc m) (2 ^ 53) (and_r (eqb (suc m % 2) 1) (ltb (suc m) (2 ^ 53)) first),
      leb→le (down e) (2 ^ 1074) (and_r (eqb (suc m % 2) 1 && ltb (suc m) (2 ^ 53)) (leb (down e) (2 ^ 1074)) last),
      ltb→lt (suc m * up e) (2 ^ 1024 * down e) (and_r (eqb (suc m % 2) 1 && ltb (suc m) (2 ^ 53) && leb (down e) (2 ^ 1074)) (ltb (suc m * up e) (2 ^ 1024 * down e)) f),
    )

pow_le_back : (i p : ℕ) → 2 ^ i ≤ 2 ^ p → i ≤ p
pow_le_back i p h = le_of_suc-le-suc (lt_of_not-le (λ (g : suc p ≤ i). lt_irrefl (2 ^ i) (lt_of_le_of_lt h (lt_of_lt_of_le (pow-lt (le_refl (suc p))) (pow_mono g)))))

join : (k : ℕ) → k ≤ 1074 → 1074 - k + k ≡ 1074
join k h = omega arith

room : (k : ℕ) → 53 + (1074 - k) ≤ 2098
room k = omega arith

own_fraction : (s : Bool) (m : ℕ) (e : ℤ) → T (fits binary64 (fin s m e)) → HasValue (round binary64 s (m * up e) (down e)) s (m * up e) (down e)
own_fraction s zero e f = round_exact binary64 s (0 * up e) (down e) 0 0 (down_pos e) (lit< tt) (lit< tt) (omega arith)
own_fraction s (suc m) (pos k) f =
    let q = suc m in
    let p = fits_parts s m (pos k) f in
    let b : q * 2 ^ (k + 1074) < 2 ^ 2098 =
    lt_of_le_of_lt (le_of_eq (ap (λ (z : ℕ). q * z) (pow-add 2 k 1074) ∙ sym (mul_assoc q (2 ^ k) (2 ^ 1074)))) (mul-lt-mul_of_pos_right (lt_of_lt_of_le p.2 (le_of_eq (mul-one (2 ^ 1024)))) (pow_pos 1074)) in
    whole_units s q (pos k) (k + 1074) p.0 b (mul-one (2 ^ (k + 1074)) ∙ pow-add 2 k 1074)
own_fraction s (suc m) (negsuc k) f =
    let q = suc m in
    let p = fits_parts s m (negsuc k) f in
    let l : suc k ≤ 1074 = pow_le_back (suc k) 1074 p.1 in
    let b : q * 2 ^ (1074 - suc k) < 2 ^ 2098 = lt_of_lt_of_le (shl_lt 53 (1074 - suc k) p.0) (pow_mono (room (suc k))) in
    whole_units s q (negsuc k) (1074 - suc k) p.0 b (sym (pow-add 2 (1074 - suc k) (suc k)) ∙ ap (λ (z : ℕ). 2 ^ z) (join (suc k) l) ∙ sym (one-mul (2 ^ 1074)))

pub own_round : (s : Bool) (m : ℕ) (e : ℤ) → T (fits binary64 (fin s m e)) → round binary64 s (m * up e) (down e) ≡ fin s m e
own_round s m e f =
    one_float (round binary64 s (m * up e) (down e)) (fin s m e) s (m * up e) (down e) (down_pos e) (round-fits binary64 s (m * up e) (down e)) f (own_fraction s m e f) (refl, refl)

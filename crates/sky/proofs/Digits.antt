-- A finite float of at least n, and what its digits' remainder says of it. Assumes nothing.
use mathlib.Core.Path.{◌≡◌, sym, ap, ◌∙◌, subst}
use mathlib.Core.Bool.{true, false, not}
use Prim.Native.Nat.{ℕ, ◌+◌, ◌-◌, ◌*◌, ◌/◌, ◌%◌, ◌^◌, ◌≤◌, ◌<◌}
use native.Mathlib.Nat.{mod-eq_of_lt, mod-le, mul-pos, one-mul, lt_of_lt_of_le, lt_of_le_of_lt, le_of_lt}
use native.Mathlib.Omega.{arith}
use lib.IntN.{pos}
use lib.Dec.{T, le→leb, lit≤}
use lib.Pow.{pow_pos, pow-lt}
use lib.Ieee.{Float, nan, inf, fin, binary64, div, rem, lt, fits, is_nan, of_int, in_float, to_bits}
use lib.Ieee.Exact.{HasValue}
use Rattle.std.specs.Float.{float_is_finite}
use Rattle.paper.specs.Floats.{whole}
use Rattle.gregorian.proofs.Instants.{whole_value}
use Rattle.sky.proofs.Patterns.{Pattern, pattern_is}
use Rattle.sky.proofs.Remainders.{at_least, div_value, few, from, places_lt, within, near_left, far_left}

pub number : (x : Float) → float_is_finite x ≡ true → T (not (is_nan x))
unfolding float_is_finite is_nan
number nan f = subst T (sym f) tt
number (inf s) f = tt
number (fin s m e) f = tt

in_place : (n : ℕ) → n ≤ 2 ^ 53 → T (in_float binary64 (pos n))
unfolding in_float
in_place n h = le→leb n (2 ^ 53) h

module _ (x : Float) (n : ℕ) (F : fits binary64 x ≡ true) (N : 0 < n) (W : n < 2 ^ 32) (f : float_is_finite x ≡ true) (l : lt x (whole (pos n)) ≡ false) where
  abbrev b : ℕ
  b = to_bits binary64 x

  abbrev digits : ℕ
  digits = b % 2 ^ 52 + 2 ^ 52

  abbrev places : ℕ
  places = 1075 - b / 2 ^ 52

  w : HasValue (whole (pos n)) false n 1
  w = whole_value n (omega arith)

  p : Pattern n b x
  p = let a = at_least x (whole (pos n)) n N w f l in pattern_is n x N (subst T (sym F) tt) a.0 a.1

  pub shift : places < 64
  shift = let h = from N p in omega arith

  module _ (h : b / 2 ^ 52 < 1075) where
    divisor_is : n * 2 ^ places % 2 ^ 64 ≡ n * 2 ^ places
    divisor_is = let k = within N p h in let d = few N p in mod-eq_of_lt (omega arith)

    power_lt : 2 ^ places < 2 ^ 53
    power_lt = pow-lt (places_lt N p h)

    power_is : 1 * 2 ^ places % 2 ^ 64 ≡ 2 ^ places
    power_is = ap (λ (k : ℕ). k % 2 ^ 64) (one-mul (2 ^ places)) ∙ mod-eq_of_lt (lt_of_lt_of_le power_lt (lit≤ tt))

    pub divisor : 0 < n * 2 ^ places % 2 ^ 64
    divisor = subst (λ (k : ℕ). 0 < k) (sym divisor_is) (mul-pos N (pow_pos places))

    pub power_held : T (in_float binary64 (pos (1 * 2 ^ places % 2 ^ 64)))
    power_held = subst (λ (k : ℕ). T (in_float binary64 (pos k))) (sym power_is) (in_place (2 ^ places) (le_of_lt power_lt))

    pub near_is : div binary64 (whole (pos (digits % (n * 2 ^ places % 2 ^ 64)))) (whole (pos (1 * 2 ^ places % 2 ^ 64))) ≡ rem binary64 x (whole (pos n))
    near_is =
        let r = digits % (n * 2 ^ places) in
        let small : r < 2 ^ 53 = lt_of_le_of_lt (mod-le digits (n * 2 ^ places)) (few N p) in
        (λ i. div binary64 (whole (pos (digits % divisor_is i))) (whole (pos (power_is i))))
        ∙ div_value (whole (pos r)) (whole (pos (2 ^ places))) r (2 ^ places) (pow_pos places) (whole_value r small) (whole_value (2 ^ places) power_lt)
        ∙ sym (near_left N p h (whole (pos n)) w)

  pub far_is : 1075 ≤ b / 2 ^ 52 → (r : ℕ) → r ≡ digits * 2 ^ (b / 2 ^ 52 - 1075) % n → whole (pos r) ≡ rem binary64 x (whole (pos n))
  unfolding of_int
  far_is h r e = ap (λ (k : ℕ). whole (pos k)) e ∙ sym (far_left N p h (whole (pos n)) w)

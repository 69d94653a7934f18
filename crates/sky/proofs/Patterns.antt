-- What the pattern of a large float says. Assumes nothing.
use mathlib.Core.Path.{◌≡◌, refl, sym, ap, ◌∙◌, subst}
use mathlib.Core.Bool.{Bool, true, false, cond}
use Prim.Native.Nat.{ℕ, zero, suc, ◌+◌, ◌*◌, ◌/◌, ◌%◌, ◌^◌, ◌≤◌, ◌<◌}
use native.Mathlib.Nat.{mul_right_comm, mul-one, one-mul, mod-lt, mod-eq_of_lt, add_comm, le_of_mul-le-mul_right, lt_of_lt_of_le, le_trans, le_of_eq, lt_irrefl, mul-le-mul_right}
use native.Mathlib.Omega.{arith}
use lib.Dec.{T, leb, eqb}
use lib.Pow.{pow_pos, pow_mono}
use borrow.Author.Tests.{leb-false}
use lib.Ieee.{Float, nan, inf, fin, binary64, odd, fits, of_bits, of_fields, to_bits}
use lib.Ieee.Bits.{of_bits-to_bits}
use lib.Ieee.Exact.{HasValue, odd_sign}
use lib.Ieee.Positive.{num, den, den_pos, positive, value→cross}

-- b is the pattern of x, a number of at least n: its field is j + 1, and x is its digits under a leading one, times 2 ^ j of the smallest values
pub record Pattern (n b : ℕ) (x : Float) : Type 0 where
  pub j : ℕ
  pub exponent : b / 2 ^ 52 ≡ suc j
  pub value : HasValue x false ((b % 2 ^ 52 + 2 ^ 52) * 2 ^ j) (2 ^ 1074)
  pub large : n * 2 ^ 1074 ≤ (b % 2 ^ 52 + 2 ^ 52) * 2 ^ j

-- a fraction of at least n, in units of 1 / l
at_least : (n p q a l : ℕ) → 0 < q → n * q ≤ p → p * l ≡ a * q → n * l ≤ a
at_least n p q a l Q h e = le_of_mul-le-mul_right (le_trans (le_of_eq (mul_right_comm n l q)) (le_trans (mul-le-mul_right l h) (le_of_eq e))) Q

-- below the leading one there is no number of at least 1
no_small : (n t : ℕ) → 0 < n → t < 2 ^ 52 → n * 2 ^ 1074 ≤ t * 2 ^ 0 → ⊥
no_small n t N h k =
    let l : 2 ^ 52 ≤ 2 ^ 1074 = pow_mono {i = 52} {j = 1074} (omega arith) in
    let m : 1 * 2 ^ 1074 ≤ n * 2 ^ 1074 = mul-le-mul_right (2 ^ 1074) N in
    lt_irrefl t (lt_of_lt_of_le h (le_trans l (le_trans (le_of_eq (sym (one-mul (2 ^ 1074)))) (le_trans m (le_trans k (le_of_eq (mul-one t)))))))

-- a number above zero has no sign
unsigned : (z : Float) (s : Bool) (a c : ℕ) → T (positive z) → HasValue z s a c → (s ≡ false) × HasValue z false a c
unsigned nan s a c p v = absurd p
unsigned (inf t) s a c p v = absurd p
unsigned (fin true m e) s a c p v = absurd p
unsigned (fin false m e) s a c p v = (sym v.0, (refl, v.1))

-- an exponent of all ones is no number's
no_number : (z : Bool) (s : Bool) (y : Float) → cond z (inf s) nan ≡ y → T (positive y) → ⊥
no_number true s y e p = subst (λ (k : Float). T (positive k)) (sym e) p
no_number false s y e p = subst (λ (k : Float). T (positive k)) (sym e) p

-- what the fields of a number of at least n are
abbrev Fields : ℕ → ℕ → Bool → Float → Type 0
Fields x t s y = (j : ℕ) × (x ≡ suc j) × (s ≡ false) × HasValue y false ((t + 2 ^ 52) * 2 ^ j) (2 ^ 1074)

fields : (n x t : ℕ) (s : Bool) (y : Float) → 0 < n → t < 2 ^ 52 → T (positive y) → n * den y ≤ num y → of_fields binary64 s x t ≡ y → Fields x t s y
unfolding of_fields
fields n zero t s y N h p g e =
    let v = unsigned y s (t * 2 ^ 0) (2 ^ 1074) p (subst (λ (z : Float). HasValue z s (t * 2 ^ 0) (2 ^ 1074)) e (odd_sign 53 s t 0 1074)) in
    absurd (no_small n t N h (at_least n (num y) (den y) (t * 2 ^ 0) (2 ^ 1074) (den_pos y) g (value→cross y (t * 2 ^ 0) (2 ^ 1074) v.1)))
fields n (suc j) t s y N h p g e = go (eqb (suc j) 2047) e
  where
    go : (b : Bool) → cond b (cond (eqb t 0) (inf s) nan) (odd 53 s (2 ^ 52 + t) j 1074) ≡ y → Fields (suc j) t s y
    go true q = absurd (no_number (eqb t 0) s y q p)
    go false q =
        let v = unsigned y s ((2 ^ 52 + t) * 2 ^ j) (2 ^ 1074) p (subst (λ (z : Float). HasValue z s ((2 ^ 52 + t) * 2 ^ j) (2 ^ 1074)) q (odd_sign 53 s (2 ^ 52 + t) j 1074)) in
        (j, refl, v.0, subst (λ (k : ℕ). HasValue y false (k * 2 ^ j) (2 ^ 1074)) (add_comm (2 ^ 52) t) v.1)

of_bits_is : (b : ℕ) → of_bits binary64 b ≡ of_fields binary64 (leb (2 ^ 63) b) (b % 2 ^ 63 / 2 ^ 52) (b % 2 ^ 52)
unfolding of_bits
of_bits_is b = refl

low_field : (b x : ℕ) → b < 2 ^ 63 → b % 2 ^ 63 / 2 ^ 52 ≡ x → b / 2 ^ 52 ≡ x
low_field b x h e = ap (λ (k : ℕ). k / 2 ^ 52) (sym (mod-eq_of_lt h)) ∙ e

pub pattern_is : (n : ℕ) (x : Float) → 0 < n → T (fits binary64 x) → T (positive x) → n * den x ≤ num x → Pattern n (to_bits binary64 x) x
pattern_is n x N f p g =
    let b = to_bits binary64 x in
    let t = b % 2 ^ 52 in
    let z = fields n (b % 2 ^ 63 / 2 ^ 52) t (leb (2 ^ 63) b) x N (mod-lt b (pow_pos 52)) p g (sym (of_bits_is b) ∙ of_bits-to_bits binary64 x f) in
    let a = (t + 2 ^ 52) * 2 ^ z.0 in
    record {
      j = z.0;
      exponent = low_field b (suc z.0) (leb-false (2 ^ 63) b z.2) z.1;
      value = z.3;
      large = at_least n (num x) (den x) a (2 ^ 1074) (den_pos x) g (value→cross x a (2 ^ 1074) z.3);
    }

-- The laws of sine, cosine and the arcs. Sine and cosine never leave -1 to 1. In range a negated angle negates the sine and keeps the cosine.
-- Zeros keep their sign under sine. Out of range, and for no number, the answer is 0.0. There is no second answer. Assumes nothing.
use Prim.Native.Nat.{ℕ, ◌+◌, ◌*◌, ◌<◌}
use mathlib.Core.Bool.{Bool, true, false, cond, ◌||◌, true≢false}
use mathlib.Core.Path.{◌≡◌, refl, sym, ◌∙◌, ap}
use native.Mathlib.Nat.{zero-mul, one-mul}
use native.Mathlib.Omega.{arith}
use borrow.Author.Tests.{ltb-false}
use lib.IntN.{ℤ}
use lib.Dec.{T, ltb, lt→ltb}
use lib.Ieee.{Float, nan, inf, fin, add, sub, mul, div, neg, lt, le, eq, of_bits, below, level, up, down}
use lib.Ieee.Bits.{is_true}
use lib.Ieee.Fits.{and_i, down_pos}
use Rattle.trig.specs.Trig.{zero, one, limit, in_range, within_one, least, most, clamp, turned, signed, magnitude, turn_sign, sine_series, wave, swing, sine_above, cosine_above, sine, cosine, tangent, arcsine, arccosine}
use Rattle.trig.proofs.Signs.{between_neg, magnitude_neg, signed_neg}

-- ---- -1 to 1

lt_le : (x y : Float) → lt x y ≡ true → le x y ≡ true
unfolding le
lt_le x y e = rw e

clamp_within : (v : Float) → T (within_one (clamp v))
unfolding clamp least most le lt eq neg of_bits
clamp_within v = first (lt v one) refl
  where
    second : (q : Bool) → lt v one ≡ true → lt (neg one) v ≡ q → T (within_one (cond q v (neg one)))
    second true a b = rw (lt_le v one a, lt_le (neg one) v b) tt
    second false a b = tt

    first : (p : Bool) → lt v one ≡ p → T (within_one (most (cond p v one) (neg one)))
    first true a = second (lt (neg one) v) a refl
    first false a = tt

-- a number that is on neither side of zero is within -1 to 1
or_true : (a b : Bool) → T a → T (a || b)
or_true true b t = tt
or_true false b t = absurd t

small_low : (s : Bool) (k d : ℕ) → 0 < d → below s k false 0 ≡ false → T (below true d s k || level true d s k)
small_low false k d h q = or_true (ltb 0 (d + k)) (level true d false k) (lt→ltb 0 (d + k) (omega arith))
small_low true k d h q = or_true (ltb k d) (level true d true k) (lt→ltb k d (omega (arith, ltb-false 0 (k + 0) q)))

small_high : (s : Bool) (k d : ℕ) → 0 < d → below false 0 s k ≡ false → T (below s k false d || level s k false d)
small_high false k d h p = or_true (ltb k d) (level false k false d) (lt→ltb k d (omega (arith, ltb-false 0 k p)))
small_high true k d h p = or_true (ltb 0 (k + d)) (level true k false d) (lt→ltb 0 (k + d) (omega arith))

zero_below : (s : Bool) (m : ℕ) (e : ℤ) → lt zero (fin s m e) ≡ below false 0 s (m * up e * 1)
unfolding lt of_bits
zero_below s m e = ap (λ (k : ℕ). below false k s (m * up e * 1)) (zero-mul (down e))

below_zero : (s : Bool) (m : ℕ) (e : ℤ) → lt (fin s m e) zero ≡ below s (m * up e * 1) false 0
unfolding lt of_bits
below_zero s m e = ap (λ (k : ℕ). below s (m * up e * 1) false k) (zero-mul (down e))

one_le : (s : Bool) (m : ℕ) (e : ℤ) → le (neg one) (fin s m e) ≡ (below true (down e) s (m * up e * 1) || level true (down e) s (m * up e * 1))
unfolding le lt eq neg of_bits
one_le s m e = ap (λ (k : ℕ). below true k s (m * up e * 1) || level true k s (m * up e * 1)) (one-mul (down e))

le_one : (s : Bool) (m : ℕ) (e : ℤ) → le (fin s m e) one ≡ (below s (m * up e * 1) false (down e) || level s (m * up e * 1) false (down e))
unfolding le lt eq of_bits
le_one s m e = ap (λ (k : ℕ). below s (m * up e * 1) false k || level s (m * up e * 1) false k) (one-mul (down e))

near_zero : (s : Bool) (m : ℕ) (e : ℤ) → lt zero (fin s m e) ≡ false → lt (fin s m e) zero ≡ false → T (within_one (fin s m e))
near_zero s m e p q =
    let k = m * up e * 1 in
    rw (one_le s m e, le_one s m e) (and_i (below true (down e) s k || level true (down e) s k) (below s k false (down e) || level s k false (down e))
    (small_low s k (down e) (down_pos e) (sym (below_zero s m e) ∙ q)) (small_high s k (down e) (down_pos e) (sym (zero_below s m e) ∙ p)))

zero_within : (x : Float) → T (in_range x) → lt zero x ≡ false → lt x zero ≡ false → T (within_one x)
unfolding le lt eq neg of_bits
zero_within nan h p q = h
zero_within (inf true) h p q = true≢false q
zero_within (inf false) h p q = true≢false p
zero_within (fin s m e) h p q = near_zero s m e p q

signed_within : (x v : Float) → T (in_range x) → T (within_one v) → T (within_one (signed x v))
unfolding signed turned
signed_within x v h w = go (lt zero x) (lt x zero) refl refl
  where
    go : (p q : Bool) → lt zero x ≡ p → lt x zero ≡ q → T (within_one (cond p v (cond q (neg v) x)))
    go true q a b = w
    go false true a b = between_neg one v w
    go false false a b = zero_within x h a b

swing_within : (a k h : Float) → T (within_one (swing a k h))
unfolding swing
swing_within a k h = clamp_within _

pub sine_within : (x : Float) → T (within_one (sine x))
unfolding sine sine_above le lt eq neg of_bits
sine_within x = go (in_range x) refl
  where
    go : (p : Bool) → in_range x ≡ p → T (within_one (cond p (signed x (sine_above (magnitude x))) zero))
    go true e = signed_within x (sine_above (magnitude x)) (rw e tt) (swing_within _ _ _)
    go false e = tt

pub cosine_within : (x : Float) → T (within_one (cosine x))
unfolding cosine cosine_above le lt eq neg of_bits
cosine_within x = go (in_range x)
  where
    go : (p : Bool) → T (within_one (cond p (cosine_above (magnitude x)) zero))
    go true = swing_within _ _ _
    go false = tt

-- ---- in range

sine_in : (x : Float) → T (in_range x) → sine x ≡ signed x (sine_above (magnitude x))
unfolding sine
sine_in x h = rw (is_true (in_range x) h)

cosine_in : (x : Float) → T (in_range x) → cosine x ≡ cosine_above (magnitude x)
unfolding cosine
cosine_in x h = rw (is_true (in_range x) h)

pub range_neg : (x : Float) → T (in_range x) → T (in_range (neg x))
range_neg x h = between_neg limit x h

pub sine_neg : (x : Float) → T (in_range x) → sine (neg x) ≡ neg (sine x)
sine_neg x h = rw (sine_in x h, sine_in (neg x) (range_neg x h), magnitude_neg x) (signed_neg x _)

pub cosine_neg : (x : Float) → T (in_range x) → cosine (neg x) ≡ cosine x
cosine_neg x h = rw (cosine_in x h, cosine_in (neg x) (range_neg x h), magnitude_neg x)

pub sine_zero : sine zero ≡ zero
unfolding sine signed turned le lt eq neg of_bits
sine_zero = refl

pub sine_minus_zero : sine (neg zero) ≡ neg zero
unfolding sine signed turned le lt eq neg of_bits
sine_minus_zero = refl

pub cosine_zero : cosine zero ≡ one
unfolding cosine cosine_above swing wave turn_sign sine_series clamp least most magnitude le lt eq neg add sub mul of_bits
cosine_zero = refl

-- ---- out of range

pub sine_outside : (x : Float) → in_range x ≡ false → sine x ≡ zero
unfolding sine
sine_outside x e = rw e

pub cosine_outside : (x : Float) → in_range x ≡ false → cosine x ≡ zero
unfolding cosine
cosine_outside x e = rw e

pub arcsine_outside : (x : Float) → within_one x ≡ false → arcsine x ≡ zero
unfolding arcsine
arcsine_outside x e = rw e

pub arccosine_outside : (x : Float) → within_one x ≡ false → arccosine x ≡ zero
unfolding arccosine
arccosine_outside x e = rw e

-- 0.0 / 0.0, which is no number
pub tangent_outside : (x : Float) → in_range x ≡ false → tangent x ≡ nan
unfolding tangent div of_bits
tangent_outside x e = rw (sine_outside x e, cosine_outside x e)

-- no number is neither an angle nor an arc's argument
pub nan_outside : (in_range nan ≡ false) × (within_one nan ≡ false)
unfolding le lt eq neg of_bits
nan_outside = (refl, refl)

-- ---- no second answer: what a contract `r ≡ f x` fixes
pub no_second : (f : Float → Float) (x r s : Float) → r ≡ f x → s ≡ f x → r ≡ s
no_second f x r s p q = p ∙ sym q

-- Signed numbers of the code, which the machine keeps by their bits: small ones are summed exactly, and one that is not below 0 is a number.
-- Assumes nothing.
use Prim.Native.Nat.{ℕ, suc, ◌+◌, ◌-◌, ◌^◌, ◌≤◌, ◌<◌}
use mathlib.Core.Path.{◌≡◌, refl, sym, subst, ◌∙◌}
use mathlib.Core.Bool.{Bool, true, false, cond}
use native.Mathlib.Omega.{arith}
use lib.Dec.{T, ltb}
use lib.IntN.{ℤ, pos, negsuc, nat_abs, ◌+ℤ◌}
use lib.Signed.{mag, lt_z, non_neg}
use mir.Syntax.{w64}
use mir.Val.{Fits, SFits, to_z, of_z}
use mir.ValLaws.{to_z-of_z}

-- a number far below the width's half fits
pub fits_as : {z v : ℤ} → z ≡ v → mag v < 2 ^ 40 → SFits w64 z
fits_as {v = v} e h = subst (SFits w64) (sym e) (record { sfits = omega arith })

-- and is read back as it was written
pub exact : (z v : ℤ) → z ≡ v → mag v < 2 ^ 40 → to_z w64 (of_z w64 z) ≡ v
exact z v e h = to_z-of_z w64 z (fits_as e h) ∙ e

either : (b : Bool) (x y : ℤ) (n : ℕ) → mag x ≤ n → mag y ≤ n → mag (cond b x y) ≤ n
either true x y n h k = h
either false x y n h k = k

-- a sum is at most as far from 0 as its summands together, and one more
pub mag_sum : (a b : ℤ) → mag (a +ℤ b) ≤ mag a + mag b + 1
mag_sum (pos a) (pos b) = omega arith
mag_sum (pos a) (negsuc b) = either (ltb a (suc b)) (negsuc (suc b - suc a)) (pos (a - suc b)) _ (omega arith) (omega arith)
mag_sum (negsuc a) (pos b) = either (ltb b (suc a)) (negsuc (suc a - suc b)) (pos (b - suc a)) _ (omega arith) (omega arith)
mag_sum (negsuc a) (negsuc b) = omega arith

-- what is not below 0 is a number, and fits as one
natural : (z : ℤ) → SFits w64 z → lt_z z (pos 0) ≡ false → T (non_neg z) × Fits w64 (nat_abs z) × (z ≡ pos (nat_abs z))
natural (pos n) f e = (tt, record { fits = omega (arith, f.sfits) }, refl)
natural (negsuc n) f e = absurd (let z : ◌≡◌ {A = ℕ} 0 1 = cc in omega arith)

module _ (z : ℤ) (f : SFits w64 z) where
  -- a test on a number is a test on what is read back
  pub tested : {b : Bool} → lt_z (to_z w64 (of_z w64 z)) (pos 0) ≡ b → lt_z z (pos 0) ≡ b
  tested {b} e = subst (λ (v : ℤ). lt_z v (pos 0) ≡ b) (to_z-of_z w64 z f) e

  pub cut : lt_z (to_z w64 (of_z w64 z)) (pos 0) ≡ false → T (non_neg (to_z w64 (of_z w64 z))) × Fits w64 (nat_abs (to_z w64 (of_z w64 z)))
  cut e =
      let k = natural (to_z w64 (of_z w64 z)) (subst (SFits w64) (sym (to_z-of_z w64 z f)) f) e in
      (k.0, k.1)

  pub is_number : lt_z (to_z w64 (of_z w64 z)) (pos 0) ≡ false → z ≡ pos (nat_abs (to_z w64 (of_z w64 z)))
  is_number e =
      sym (to_z-of_z w64 z f) ∙ (natural (to_z w64 (of_z w64 z)) (subst (SFits w64) (sym (to_z-of_z w64 z f)) f) e).2

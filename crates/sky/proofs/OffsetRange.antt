-- The offset from a tithi's target lies above -180 and at most at 180, at every instant. Assumes nothing.
use mathlib.Core.Path.{◌≡◌, refl, sym, subst, ◌∙◌}
use mathlib.Core.Bool.{Bool, true, false, not}
use mathlib.Core.Logic.{◌⊎◌, ⊎_elim}
use Prim.Native.Nat.{ℕ, zero, suc, ◌+◌, ◌-◌, ◌*◌, ◌≤◌, ◌<◌}
use native.Mathlib.Nat.{mul-le-mul_right, mul_comm, mul_assoc, mul-pos, zero-mul}
use native.Mathlib.Omega.{arith}
use lib.Dec.{T, ltb, leb, leb→le, lt→ltb, lit<}
use lib.IntN.{ℤ}
use lib.Ieee.{Float, nan, inf, fin, binary64, up, down, level, mul, lt, le, neg, add, sub, sum, round, of_int}
use lib.Ieee.Fits.{down_pos, sub-fits}
use Rattle.paper.specs.Floats.{◌⊖◌, near, dec}
use Rattle.paper.proofs.Tests.{below, at}
use Rattle.paper.proofs.Within.{or_l, to_le, to_ge, round_neg}
use Rattle.gregorian.specs.Instants.{instant}
use Rattle.sky.specs.Tithi.{elongation_of}
use Rattle.sky.specs.Search.{turned, offset, target_of}
use Rattle.sky.proofs.Norms.{Upto, fraction}
use Rattle.sky.proofs.Numbers.{elongation_number}
use Rattle.sky.proofs.TurnRange.{turned_range}

-- ---- the difference to a target
abbrev Both : Float → Type 0
Both y = T (le (neg (dec 348 0)) y) × T (le y (dec 360 0))

both_fin : (t : Bool) (m : ℕ) (e : ℤ) → (t ≡ true → m * up e ≤ 348 * down e) → m * up e ≤ 360 * down e → Both (fin t m e)
unfolding le near neg
both_fin true m e h k =
    let d = down_pos e in
    let g = h refl in (
      to_ge (348 * down e) (m * up e * 1) (omega arith),
      or_l (ltb 0 (m * up e * 1 + 360 * down e)) (level true (m * up e * 1) false (360 * down e)) (lt→ltb 0 (m * up e * 1 + 360 * down e) (omega arith)),
    )
both_fin false m e h k =
    let d = down_pos e in (
      or_l (ltb 0 (348 * down e + m * up e * 1)) (level true (348 * down e) false (m * up e * 1)) (lt→ltb 0 (348 * down e + m * up e * 1) (omega arith)),
      to_le (m * up e * 1) (360 * down e) (omega arith),
    )

both_up : (a c : ℕ) → 0 < c → a ≤ 360 * c → Both (round binary64 false a c)
both_up a c h k =
    let u = fraction 360 a c (lit< tt) h k in
    let d = down_pos u.e in
    rw u.is (both_fin u.s u.m u.e (λ t. ⊎_elim (λ q. absurd (subst T (sym t ∙ q) tt)) (λ q. omega (arith, q)) u.sign) u.top)

both_down : (a c : ℕ) → 0 < c → a ≤ 348 * c → Both (round binary64 true a c)
unfolding neg
both_down a c h k =
    let u = fraction 348 a c (lit< tt) h k in
    rw (round_neg binary64 a c, u.is) (both_fin (not u.s) u.m u.e (λ t. u.top) (let t = u.top in let d = down_pos u.e in omega arith))

module _ (m : ℕ) (e : ℤ) (n : ℕ) (d : ℤ) (hm : m * up e ≤ 360 * down e) (hn : n * up d ≤ 348 * down d) where
  apos : 0 < down e * down d
  apos = mul-pos (down_pos e) (down_pos d)

  h_a : m * up e * down d ≤ 360 * (down e * down d)
  h_a = rw (← (mul_assoc 360 (down e) (down d))) (mul-le-mul_right (down d) hm)

  h_b : n * up d * down e ≤ 348 * (down e * down d)
  h_b = rw (mul_comm (down e) (down d), ← (mul_assoc 348 (down d) (down e))) (mul-le-mul_right (down e) hn)

  plus : (b : Bool) → ltb (m * up e * down d) (n * up d * down e) ≡ b → Both (fin false m e ⊖ fin false n d)
  unfolding sub add sum neg
  plus true h = let p = h_b in simp h (both_down (n * up d * down e - m * up e * down d) (down e * down d) apos (omega arith))
  plus false h = let p = h_a in simp h (both_up (m * up e * down d - n * up d * down e) (down e * down d) apos (omega arith))

  minus : m * up e ≡ 0 → Both (fin true m e ⊖ fin false n d)
  unfolding sub add sum neg
  minus z =
      let p = h_b in
      let q : m * up e * down d ≡ 0 = rw (z, zero-mul (down d)) refl in
      both_down (m * up e * down d + n * up d * down e) (down e * down d) apos (omega arith)

differ : (s : Bool) (m : ℕ) (e : ℤ) (n : ℕ) (d : ℤ) → (s ≡ false) ⊎ (m * up e ≡ 0) → m * up e ≤ 360 * down e → n * up d ≤ 348 * down d → Both (fin s m e ⊖ fin false n d)
differ false m e n d g hm hn = plus m e n d hm hn (ltb (m * up e * down d) (n * up d * down e)) refl
differ true m e n d g hm hn = ⊎_elim (λ q. absurd (subst T q tt)) (λ q. minus m e n d hm hn q) g

-- ---- the thirty targets
fine : Float → Bool
fine nan = false
fine (inf s) = false
fine (fin true n d) = false
fine (fin false n d) = leb (n * up d) (348 * down d)

-- tithi k + 1 begins at a number from 0 to 348
targets_fine : T (below (λ k. fine (target_of (suc k))) 30)
unfolding fine target_of of_int near sub add mul
targets_fine = tt

target_fine : (k : ℕ) → 1 ≤ k → k ≤ 30 → T (fine (target_of k))
target_fine zero h l = absurd (omega arith)
target_fine (suc k) h l = at (λ k. fine (target_of (suc k))) 30 targets_fine k (omega arith)

from_fine : (z t : Float) → Upto 360 z → T (fine t) → Both (z ⊖ t)
unfolding fine
from_fine z nan u f = absurd f
from_fine z (inf s) u f = absurd f
from_fine z (fin true n d) u f = absurd f
from_fine z (fin false n d) u f =
    rw u.is (differ u.s u.m u.e n d u.sign u.top (leb→le (n * up d) (348 * down d) f))

-- the offset from a tithi's target is above -180 and at most 180, for an elongation from 0 to 360
pub turned_offset : (x : Float) (k : ℕ) → Upto 360 x → 1 ≤ k → k ≤ 30 → (lt (neg (dec 180 0)) (turned (x ⊖ target_of k)) ≡ true) × T (le (turned (x ⊖ target_of k)) (dec 180 0))
turned_offset x k u h l =
    let b = from_fine x (target_of k) u (target_fine k h l) in
    turned_range (x ⊖ target_of k) (sub-fits binary64 x (target_of k)) b.0 b.1

-- so at every instant
pub offset_range : (ut : Float) (k : ℕ) → T (instant ut) → 1 ≤ k → k ≤ 30 → (lt (neg (dec 180 0)) (offset elongation_of (target_of k) ut) ≡ true) × T (le (offset elongation_of (target_of k) ut) (dec 180 0))
unfolding offset
offset_range ut k i h l = turned_offset (elongation_of ut) k (elongation_number ut i) h l

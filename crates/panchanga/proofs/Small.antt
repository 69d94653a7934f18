-- The sine of a small angle and the arcsine of a small number are small: an angle of at most 0.42 has a sine of at most 0.4375, and a number of hardly more an arcsine
-- of at most 0.4531. Bounds are in units of 2 ^ -20. Assumes nothing.
use Rattle.std.proofs.Common.{◌≡◌, ℕ, ◌+◌, ◌-◌, ◌*◌, ◌^◌, ◌<◌, ◌≤◌, Bool, true, false, cond, ◌&&◌, T, eqb, ltb, leb, ℤ, pos, sym, refl, ap, ◌∙◌, subst, true≢false, zero-le, le_trans, le_of_eq, le_antisymm, mul-lt-mul_of_pos_right, mul-pos, mul-one, arith, lit<, lit≤, eqb→eq, ltb→lt, lt-ltb}
use lib.Ieee.{Float, nan, inf, fin, binary64, fits, up, down, round, neg, sum, add, sub, mul, lt, le, of_bits}
use lib.Ieee.Fits.{down_pos, and_l, and_r, round-fits}
use lib.Ieee.Exact.{HasValue}
use lib.Ieee.Back.{whole_unique}
use lib.Ieee.Order.{round_mono}
use lib.Ieee.Positive as Positive
use lib.Ieee.Positive.{num, den, positive, le→cross}
use Rattle.paper.specs.Floats.{◌⊕◌, ◌⊖◌, ◌⊗◌, bits}
use Rattle.paper.proofs.Tests.{T_true}
use Rattle.trig.specs.Trig.{zero, half, one, wholes, per_half_turn, in_range, within_one, least, most, clamp, magnitude, turned, signed, nearest_whole, turn_sign, sine_series, wave, swing, sine_above, sine, arc_series, arc_near, arcsine_within, arcsine}
use Rattle.trig.proofs.Signs.{zero_lt_neg}
use Rattle.paper.proofs.Within.{Within, Size, negated, widen, either, inside, Formula, lit, got, ◌⊞◌, ◌⊟◌, ◌⊠◌, by, bound, good, within}

-- ---- a number from 0 to a quarter is lost beside 3 * 2 ^ 51
wholes_fit : T (fits binary64 wholes)
unfolding fits of_bits
wholes_fit = tt

wholes_pos : T (positive wholes)
unfolding of_bits
wholes_pos = tt

wholes_low : round binary64 false (3 * 2 ^ 51) 1 ≡ wholes
unfolding round of_bits
wholes_low = refl

wholes_high : round binary64 false (3 * 2 ^ 53 + 1) 4 ≡ wholes
unfolding round of_bits
wholes_high = refl

wholes_num : num wholes ≡ 3 * 2 ^ 51
unfolding of_bits
wholes_num = refl

wholes_den : den wholes ≡ 1
unfolding of_bits
wholes_den = refl

wholes_value : HasValue wholes false (3 * 2 ^ 51) 1
unfolding of_bits
wholes_value = (refl, refl)

valued : (z : Float) (K : ℕ) → T (positive z) → num z ≡ K * den z → HasValue z false K 1
valued nan K p h = p
valued (inf s) K p h = p
valued (fin true m e) K p h = absurd p
valued (fin false m e) K p h = (refl, mul-one (m * up e) ∙ h)

only : (z : Float) → T (fits binary64 z) → T (le wholes z) → T (le z wholes) → z ≡ wholes
only z f a b =
    let p = Positive.between wholes z wholes wholes_pos wholes_pos a b in
    let l : 3 * 2 ^ 51 * den z ≤ num z * 1 = rw (wholes_num, wholes_den) at (le→cross wholes z wholes_pos p a) in
    let h : num z * 1 ≤ 3 * 2 ^ 51 * den z = rw (wholes_num, wholes_den) at (le→cross z wholes p wholes_pos b) in
    whole_unique binary64 z wholes false (3 * 2 ^ 51) f wholes_fit
    (valued z (3 * 2 ^ 51) p (le_antisymm (le_trans (le_of_eq (sym (mul-one (num z)))) h) (le_trans l (le_of_eq (mul-one (num z)))))) wholes_value

kept : (a c : ℕ) → 0 < c → 3 * 2 ^ 51 * c ≤ a → a * 4 ≤ (3 * 2 ^ 53 + 1) * c → round binary64 false a c ≡ wholes
kept a c C l h =
    only (round binary64 false a c) (round-fits binary64 false a c)
    (subst (λ (z : Float). T (le z (round binary64 false a c))) wholes_low (round_mono binary64 (3 * 2 ^ 51) 1 a c (lit< tt) C (le_trans l (le_of_eq (sym (mul-one a))))))
    (subst (λ (z : Float). T (le (round binary64 false a c) z)) wholes_high (round_mono binary64 a c (3 * 2 ^ 53 + 1) 4 C (lit< tt) h))

lost : (z : Float) → T (le (fin false 0 (pos 0)) z) → Size 2 1 z → z ⊕ wholes ≡ wholes
unfolding le add sum of_bits
lost nan l h = absurd l
lost (inf true) l h = absurd l
lost (inf false) l h = absurd h
lost (fin false m e) l h =
    let d = down_pos e in
    kept (m * up e * 1 + 3 * 2 ^ 51 * down e) (down e * 1) (omega arith) (omega arith) (omega arith)
lost (fin true m e) l h =
    let d = down_pos e in
    let q = eqb→eq (0 * down e) (m * up e * 1) (and_l (eqb (0 * down e) (m * up e * 1)) (eqb (0 * down e) 0) l) in
    rw (lt-ltb (m * up e * 1) (3 * 2 ^ 51 * down e) (omega arith)) (kept (3 * 2 ^ 51 * down e - m * up e * 1) (down e * 1) (omega arith) (omega arith) (omega arith))

no_turn_law : (z : Float) → T (le (fin false 0 (pos 0)) z) → Size 2 1 z → nearest_whole z ≡ zero
unfolding sub of_bits
no_turn_law z l h = ap (λ (w : Float). w ⊖ wholes) (lost z l h)

zero_number : (B : ℕ) → Within 20 B zero
unfolding of_bits
zero_number B = record { size = zero-le; unit = lit≤ tt }

-- ---- what is smaller than 1 is not cut
below_one : (B : ℕ) (v : Float) → B < 2 ^ 20 → Size 20 B v → (lt v one ≡ true) × (lt (neg one) v ≡ true)
unfolding lt neg of_bits
below_one B nan b p = absurd p
below_one B (inf s) b p = absurd p
below_one B (fin false m e) b p =
    let d = down_pos e in
    let q = mul-lt-mul_of_pos_right b d in
    (lt-ltb (m * up e * 1) (1 * down e) (omega arith), lt-ltb 0 (1 * down e + m * up e * 1) (omega arith))
below_one B (fin true m e) b p =
    let d = down_pos e in
    let q = mul-lt-mul_of_pos_right b d in
    (lt-ltb 0 (m * up e * 1 + 1 * down e) (omega arith), lt-ltb (m * up e * 1) (1 * down e) (omega arith))

uncut : {B : ℕ} {v : Float} → T (ltb B (2 ^ 20)) → Within 20 B v → Within 20 B (clamp v)
unfolding clamp least most
uncut {B} {v} t p =
    let q = below_one B v (ltb→lt B (2 ^ 20) t) p.size in
    rw (q.0, q.1) p

no_sign : turn_sign zero ≡ one
unfolding turn_sign add sub mul of_bits
no_sign = refl

-- ---- the sine's series, with a bound for each bound of its angle
abbrev series : Formula 20 → Formula 20
series z =
    let zz = z ⊠ z in
    let a = lit (bits 0x3f81_1111_1111_1107) ⊟ z ⊠ lit (bits 0x3f2a_01a0_1a01_8aad) in
    let b = lit (bits 0x3ec7_1de3_a545_6716) ⊟ z ⊠ lit (bits 0x3e5a_e645_5a1d_7087) in
    let c = lit (bits 0x3de6_1240_15b5_ee3a) ⊟ z ⊠ lit (bits 0x3d6a_e513_8c12_16b3) in
    let q = a ⊞ zz ⊠ b ⊞ zz ⊠ zz ⊠ (c ⊞ zz ⊠ lit (bits 0x3ce8_9a48_66f5_27eb)) in
    z ⊠ q ⊟ lit (bits 0x3fc5_5555_5555_5555)

abbrev swung : Formula 20 → Formula 20
swung a =
    let y = a ⊟ lit zero ⊟ lit zero in
    let z = y ⊠ y in
    let w = by one y in
    w ⊞ w ⊠ z ⊠ series z

abbrev turns : Float → Float
turns a = a ⊗ per_half_turn

zero_is : round binary64 false 0 1 ≡ fin false 0 (pos 0)
unfolding round
zero_is = refl

turns_above : (m : ℕ) (e : ℤ) → T (le (fin false 0 (pos 0)) (turns (fin false m e)))
unfolding mul of_bits
turns_above m e = subst (λ (z : Float). T (le z (turns (fin false m e)))) zero_is (round_mono binary64 0 1 _ _ (lit< tt) (mul-pos (down_pos e) (lit< tt)) (omega arith))

quarter : (z : Float) → Size 20 262144 z → Size 2 1 z
quarter nan h = h
quarter (inf s) h = h
quarter (fin s m e) h = omega arith

turns_small : {a : Float} → Within 20 524288 a → Size 2 1 (turns a)
unfolding of_bits
turns_small {a} p = quarter (turns a) (within 262144 (got p ⊠ lit per_half_turn) tt).size

-- an angle of at most A, which is at most 0.5, has a sine of at most R
module _ (A R : ℕ) (half-or-less : T (leb A 524288)) (below : T (ltb R (2 ^ 20))) (wider : T (leb A R))
    (bounded : (y : Float) (p : Within 20 A y) → T (good (swung (got p)) && leb (bound (swung (got p))) R)) where
  swing_small : {a : Float} → Within 20 A a → Within 20 R (swing a zero zero)
  unfolding swing wave sine_series mul of_bits
  swing_small {a} p = rw no_sign (uncut below (within R (swung (got p)) (bounded a p)))

  above_small : (m : ℕ) (e : ℤ) → Within 20 A (fin false m e) → Within 20 R (sine_above (fin false m e))
  unfolding sine_above
  above_small m e p = rw (no_turn_law (turns (fin false m e)) (turns_above m e) (turns_small (widen 524288 half-or-less p))) (swing_small p)

  above_of : (x : Float) → lt zero x ≡ true → Within 20 A x → Within 20 R (sine_above x)
  unfolding lt of_bits
  above_of nan h p = absurd p.size
  above_of (inf s) h p = absurd p.size
  above_of (fin true m e) h p = absurd (true≢false (sym h))
  above_of (fin false m e) h p = above_small m e p

  signed_small : (x : Float) → Within 20 A x → Within 20 R (signed x (sine_above (magnitude x)))
  unfolding signed turned magnitude
  signed_small x p = go (lt zero x) (lt x zero) refl refl
    where
      go : (a b : Bool) → lt zero x ≡ a → lt x zero ≡ b → Within 20 R (cond a (sine_above (cond a x (cond b (neg x) zero))) (cond b (neg (sine_above (cond a x (cond b (neg x) zero)))) x))
      go true b h k = above_of x h p
      go false true h k = negated (above_of (neg x) (zero_lt_neg x ∙ k) (negated p))
      go false false h k = widen R wider p

  pub small_sine : {x : Float} → Within 20 A x → Within 20 R (sine x)
  unfolding sine
  small_sine {x} p = either (in_range x) (signed_small x p) (zero_number R)

-- of at most 0.42 radians
pub tilt_sine : {x : Float} → Within 20 440402 x → Within 20 454000 (sine x)
unfolding of_bits
tilt_sine p = small_sine 440402 454000 tt tt tt (λ y q. tt) p

-- ---- the arcsine of a number of at most 0.4378
abbrev arcs : Formula 20 → Formula 20
arcs z =
    let a = z ⊠ lit (bits 0x3f9c_d864_394d_2ff2) ⊟ lit (bits 0x3f86_0399_1d60_60e0) in
    let b = z ⊠ (z ⊠ a ⊞ lit (bits 0x3f90_6b9d_26d1_0838)) ⊞ lit (bits 0x3f7f_f5fc_4d14_c735) in
    let c = z ⊠ (z ⊠ b ⊞ lit (bits 0x3f88_522d_dffa_6208)) ⊞ lit (bits 0x3f8c_8726_5d47_ef49) in
    let d = z ⊠ (z ⊠ c ⊞ lit (bits 0x3f91_c593_c7b1_d958)) ⊞ lit (bits 0x3f96_e8b2_b3b1_0be4) in
    let e = z ⊠ (z ⊠ d ⊞ lit (bits 0x3f9f_1c71_f952_69af)) ⊞ lit (bits 0x3fa6_db6d_b684_b6a1) in
    z ⊠ (z ⊠ e ⊞ lit (bits 0x3fb3_3333_3333_6da5)) ⊞ lit (bits 0x3fc5_5555_5555_554f)

magnitude_number : {B : ℕ} {x : Float} → Within 20 B x → Within 20 B (magnitude x)
unfolding magnitude
magnitude_number {B} {x} p = either (lt zero x) p (either (lt x zero) (negated p) (zero_number B))

pub small_arc : {x : Float} → Within 20 459000 x → Within 20 475200 (arcsine x)
unfolding arcsine arcsine_within arc_near arc_series of_bits
small_arc {x} p =
    either (within_one x)
    (rw (T_true (le (magnitude x) half) (and_r (le (neg half) (magnitude x)) (le (magnitude x) half) (inside half (magnitude_number p) tt)))
    (within 475200 (got p ⊞ got p ⊠ (got p ⊠ got p) ⊠ arcs (got p ⊠ got p)) tt))
    (within 475200 (lit zero) tt)

-- One turn is enough: from -348 to 360 the turned offset lies above -180 and at most at 180. Assumes nothing.
use mathlib.Core.Path.{◌≡◌, refl, sym, subst}
use mathlib.Core.Bool.{Bool, true, false, cond, ◌&&◌}
use Prim.Native.Nat.{ℕ, zero, suc, ◌+◌, ◌-◌, ◌*◌, ◌^◌, ◌≤◌, ◌<◌}
use native.Mathlib.Omega.{arith}
use borrow.Author.Tests.{lt-ltb, ltb-false, leb-true, leb-false, ltb-true, ne_eqb}
use lib.Dec.{T, ltb, eqb, leb, ltb→lt, lt→ltb, eqb→eq, lit<}
use lib.IntN.{ℤ, pos, negsuc}
use lib.Pow.{pow_mono}
use lib.Ieee.{Float, nan, inf, fin, binary64, up, down, fits, level, lt, le, neg, add, sub, sum, round}
use lib.Ieee.Order.{round_mono}
use lib.Ieee.Fits.{down_pos, and_l}
use Rattle.paper.specs.Floats.{◌⊕◌, ◌⊖◌, near, dec}
use Rattle.paper.proofs.Within.{or_cases, or_l, up_to, down_to, to_le, round_neg}
use Rattle.sky.specs.Search.{turned}
use Rattle.sky.proofs.Orders.{le_not_above, total}
use Rattle.sky.proofs.OwnFraction.{fits_parts}

-- ---- a turn more
module _ (m : ℕ) (e : ℤ) (low : 180 * down e ≤ m * up e) (high : m * up e ≤ 348 * down e) where
  more : fin true m e ⊕ dec 360 0 ≡ round binary64 false (360 * down e - m * up e * 1) (down e * 1)
  unfolding near add sum
  more = let d = down_pos e in simp (lt-ltb (m * up e * 1) (360 * down e) (omega arith))

  more_low : T (le (dec 0 0) (fin true m e ⊕ dec 360 0))
  unfolding near
  more_low = let d = down_pos e in rw more (round_mono binary64 0 1 (360 * down e - m * up e * 1) (down e * 1) (lit< tt) (omega arith) (omega arith))

  more_high : T (le (fin true m e ⊕ dec 360 0) (dec 180 0))
  unfolding near
  more_high = let d = down_pos e in rw more (round_mono binary64 (360 * down e - m * up e * 1) (down e * 1) 180 1 (omega arith) (lit< tt) (omega arith))

-- ---- a turn less

-- the largest value below 180
abbrev most : ℕ
most = 180 * 2 ^ 45 - 1

under : (z : Float) → T (le z (fin false most (negsuc 44))) → lt (neg (dec 180 0)) (neg z) ≡ true
unfolding le near neg
under nan h = absurd h
under (inf true) h = refl
under (inf false) h = absurd h
under (fin true n d) h = let p = down_pos d in lt-ltb 0 (180 * down d + n * up d * 1) (omega arith)
under (fin false n d) h =
    let p = down_pos d in
    lt-ltb (n * up d * 1) (180 * down d)
    (or_cases (ltb (n * up d * 2 ^ 45) (most * 1 * down d)) (level false (n * up d * 2 ^ 45) false (most * 1 * down d))
    (λ t. let q = ltb→lt (n * up d * 2 ^ 45) (most * 1 * down d) t in omega arith)
    (λ t. let q = eqb→eq (n * up d * 2 ^ 45) (most * 1 * down d) (and_l (eqb (n * up d * 2 ^ 45) (most * 1 * down d)) true t) in omega arith)
    h)

-- what is at least 0 is above -180, and its negation is at most 180
at_least_zero : (n : ℕ) (d : ℤ) → T (le (dec 0 0) (fin true n d)) → n * up d ≡ 0
unfolding le near
at_least_zero n d h =
    let p = eqb→eq (0 * down d) (n * up d * 1) (and_l (eqb (0 * down d) (n * up d * 1)) (eqb (0 * down d) 0) h) in omega arith

pub above_low : (z : Float) → T (le (dec 0 0) z) → lt (neg (dec 180 0)) z ≡ true
unfolding le near neg
above_low nan h = absurd h
above_low (inf true) h = absurd h
above_low (inf false) h = refl
above_low (fin false n d) h = let p = down_pos d in lt-ltb 0 (180 * down d + n * up d * 1) (omega arith)
above_low (fin true n d) h = let p = down_pos d in let q = at_least_zero n d h in lt-ltb (n * up d * 1) (180 * down d) (omega arith)

neg_low : (z : Float) → T (le (dec 0 0) z) → T (le (neg z) (dec 180 0))
unfolding le near neg
neg_low nan h = absurd h
neg_low (inf true) h = absurd h
neg_low (inf false) h = tt
neg_low (fin false n d) h =
    let p = down_pos d in
    or_l (ltb 0 (n * up d * 1 + 180 * down d)) (level true (n * up d * 1) false (180 * down d)) (lt→ltb 0 (n * up d * 1 + 180 * down d) (omega arith))
neg_low (fin true n d) h =
    let p = down_pos d in
    let q = at_least_zero n d h in
    or_l (ltb (n * up d * 1) (180 * down d)) (level false (n * up d * 1) false (180 * down d)) (lt→ltb (n * up d * 1) (180 * down d) (omega arith))

-- a double above 180 is above it by a 2 ^ 45th at least
small : (k : ℕ) (b : Bool) → leb (suc k) 45 ≡ b → 180 * 2 ^ suc k < 2 ^ 53 → 2 ^ suc k ≤ 2 ^ 45
small k true h l = pow_mono (leb-true (suc k) 45 h)
small k false h l =
    let q : 2 ^ 46 ≤ 2 ^ suc k = pow_mono (leb-false (suc k) 45 h) in
    absurd (omega arith)

gap : (m : ℕ) (e : ℤ) → m < 2 ^ 53 → 180 * down e < m * up e → 180 * down e * 2 ^ 45 + down e ≤ m * up e * 2 ^ 45
gap m (pos k) h l = omega arith
gap m (negsuc k) h l = let s = small k (leb (suc k) 45) refl (omega arith) in omega arith

module _ (m : ℕ) (e : ℤ) (low : 180 * down e * 2 ^ 45 + down e ≤ m * up e * 2 ^ 45) (high : m * up e ≤ 360 * down e) where
  abbrev part : Float
  part = round binary64 false (360 * down e - m * up e * 1) (down e * 1)

  abbrev none : Float
  none = round binary64 false (m * up e * 1 - 360 * down e) (down e * 1)

  less : (b : Bool) → ltb (m * up e * 1) (360 * down e) ≡ b → fin false m e ⊖ dec 360 0 ≡ cond b (neg part) none
  unfolding near sub add sum neg
  less true h = simp h (round_neg binary64 (360 * down e - m * up e * 1) (down e * 1))
  less false h = simp h

  part_low : T (le (dec 0 0) part)
  unfolding near
  part_low = let d = down_pos e in round_mono binary64 0 1 (360 * down e - m * up e * 1) (down e * 1) (lit< tt) (omega arith) (omega arith)

  part_high : T (le part (fin false most (negsuc 44)))
  unfolding round
  part_high = let d = down_pos e in round_mono binary64 (360 * down e - m * up e * 1) (down e * 1) most (2 ^ 45) (omega arith) (lit< tt) (omega arith)

  none_low : T (le (dec 0 0) none)
  unfolding near
  none_low = let d = down_pos e in round_mono binary64 0 1 (m * up e * 1 - 360 * down e) (down e * 1) (lit< tt) (omega arith) (omega arith)

  none_high : T (le none (dec 180 0))
  unfolding near
  none_high = let d = down_pos e in round_mono binary64 (m * up e * 1 - 360 * down e) (down e * 1) 180 1 (omega arith) (lit< tt) (omega arith)

  less_range : (lt (neg (dec 180 0)) (fin false m e ⊖ dec 360 0) ≡ true) × T (le (fin false m e ⊖ dec 360 0) (dec 180 0))
  less_range = by (ltb (m * up e * 1) (360 * down e)) refl
    where
      by : (b : Bool) → ltb (m * up e * 1) (360 * down e) ≡ b → (lt (neg (dec 180 0)) (fin false m e ⊖ dec 360 0) ≡ true) × T (le (fin false m e ⊖ dec 360 0) (dec 180 0))
      by true h = rw (less true h) (under part part_high, neg_low part part_low)
      by false h = rw (less false h) (above_low none none_low, none_high)

-- ---- both
mantissa : (m : ℕ) (e : ℤ) → T (fits binary64 (fin false m e)) → m < 2 ^ 53
mantissa zero e t = lit< tt
mantissa (suc m) e t = (fits_parts false m e t).0

abbrev Range : Float → Type 0
Range y = (lt (neg (dec 180 0)) y ≡ true) × T (le y (dec 180 0))

and_false : (p q : Bool) → q ≡ false → (p && q) ≡ false
and_false true q h = h
and_false false q h = refl

and_false' : (p q : Bool) → p ≡ false → (p && q) ≡ false
and_false' true q h = absurd (subst T h tt)
and_false' false q h = refl

never_both : (a b : ℕ) → 0 < b → (eqb a b && eqb a 0) ≡ false
never_both zero b h = and_false' (eqb 0 b) (eqb 0 0) (ne_eqb 0 b (λ q. omega arith))
never_both (suc a) b h = and_false (eqb (suc a) b) (eqb (suc a) 0) (ne_eqb (suc a) 0 (λ q. omega arith))

-- the three ways through `turned`
turned_more : (x : Float) → le x (neg (dec 180 0)) ≡ true → lt (dec 180 0) (x ⊕ dec 360 0) ≡ false → turned x ≡ x ⊕ dec 360 0
unfolding turned
turned_more x h k = simp (h, k)

turned_same : (x : Float) → le x (neg (dec 180 0)) ≡ false → lt (dec 180 0) x ≡ false → turned x ≡ x
unfolding turned
turned_same x h k = simp (h, k)

turned_less : (x : Float) → le x (neg (dec 180 0)) ≡ false → lt (dec 180 0) x ≡ true → turned x ≡ x ⊖ dec 360 0
unfolding turned
turned_less x h k = simp (h, k)

pos_not_low : (m : ℕ) (e : ℤ) → le (fin false m e) (neg (dec 180 0)) ≡ false
unfolding le near neg
pos_not_low m e = let d = down_pos e in never_both (m * up e * 1) (180 * down e) (omega arith)

low_is : (m : ℕ) (e : ℤ) → T (le (fin true m e) (neg (dec 180 0))) → 180 * down e ≤ m * up e * 1
unfolding le near neg
low_is m e t = down_to (m * up e * 1) (180 * down e) t

high_is : (m : ℕ) (e : ℤ) → T (le (neg (dec 348 0)) (fin true m e)) → m * up e * 1 ≤ 348 * down e
unfolding le near neg
high_is m e t = down_to (348 * down e) (m * up e * 1) t

neg_not_high : (m : ℕ) (e : ℤ) → lt (dec 180 0) (fin true m e) ≡ false
unfolding lt near
neg_not_high m e = refl

neg_above : (m : ℕ) (e : ℤ) → le (fin true m e) (neg (dec 180 0)) ≡ false → lt (neg (dec 180 0)) (fin true m e) ≡ true
unfolding le near neg
neg_above m e h = total true (m * up e * 1) true (180 * down e) h

neg_below : (m : ℕ) (e : ℤ) → T (le (fin true m e) (dec 180 0))
unfolding le near
neg_below m e =
    let d = down_pos e in
    or_l (ltb 0 (m * up e * 1 + 180 * down e)) (level true (m * up e * 1) false (180 * down e)) (lt→ltb 0 (m * up e * 1 + 180 * down e) (omega arith))

pos_high : (m : ℕ) (e : ℤ) → T (le (fin false m e) (dec 360 0)) → m * up e * 1 ≤ 360 * down e
unfolding le near
pos_high m e t = up_to (m * up e * 1) (360 * down e) t

pos_low : (m : ℕ) (e : ℤ) → lt (dec 180 0) (fin false m e) ≡ true → 180 * down e < m * up e
unfolding lt near
pos_low m e h = let p = ltb-true (180 * down e) (m * up e * 1) h in omega arith

pos_above : (m : ℕ) (e : ℤ) → lt (neg (dec 180 0)) (fin false m e) ≡ true
unfolding lt near neg
pos_above m e = let d = down_pos e in lt-ltb 0 (180 * down e + m * up e * 1) (omega arith)

pos_below : (m : ℕ) (e : ℤ) → lt (dec 180 0) (fin false m e) ≡ false → T (le (fin false m e) (dec 180 0))
unfolding le near
pos_below m e h =
    let p = ltb-false (180 * down e) (m * up e * 1) h in
    to_le (m * up e * 1) (180 * down e) p

nan_not : T (le nan (dec 360 0)) → ⊥
unfolding le
nan_not t = t

inf_not : T (le (neg (dec 348 0)) (inf true)) → ⊥
unfolding le near neg
inf_not t = t

inf_not' : T (le (inf false) (dec 360 0)) → ⊥
unfolding le near
inf_not' t = t

turn_neg : (m : ℕ) (e : ℤ) (b : Bool) → le (fin true m e) (neg (dec 180 0)) ≡ b → T (le (neg (dec 348 0)) (fin true m e)) → Range (turned (fin true m e))
turn_neg m e true h l =
    let p' = low_is m e (subst T (sym h) tt) in
    let q' = high_is m e l in
    let p : 180 * down e ≤ m * up e = omega arith in
    let q : m * up e ≤ 348 * down e = omega arith in
    rw (turned_more (fin true m e) h (le_not_above (fin true m e ⊕ dec 360 0) (dec 180 0) (more_high m e p q)))
    (above_low (fin true m e ⊕ dec 360 0) (more_low m e p q), more_high m e p q)
turn_neg m e false h l = rw (turned_same (fin true m e) h (neg_not_high m e)) (neg_above m e h, neg_below m e)

turn_pos : (m : ℕ) (e : ℤ) (b : Bool) → lt (dec 180 0) (fin false m e) ≡ b → T (fits binary64 (fin false m e)) → T (le (fin false m e) (dec 360 0)) → Range (turned (fin false m e))
turn_pos m e true h f l =
    let p = pos_high m e l in
    rw (turned_less (fin false m e) (pos_not_low m e) h) (less_range m e (gap m e (mantissa m e f) (pos_low m e h)) (omega arith))
turn_pos m e false h f l = rw (turned_same (fin false m e) (pos_not_low m e) h) (pos_above m e, pos_below m e h)

-- one turn is enough
pub turned_range : (x : Float) → T (fits binary64 x) → T (le (neg (dec 348 0)) x) → T (le x (dec 360 0)) → (lt (neg (dec 180 0)) (turned x) ≡ true) × T (le (turned x) (dec 180 0))
turned_range nan f l h = absurd (nan_not h)
turned_range (inf true) f l h = absurd (inf_not l)
turned_range (inf false) f l h = absurd (inf_not' h)
turned_range (fin true m e) f l h = turn_neg m e (le (fin true m e) (neg (dec 180 0))) refl l
turned_range (fin false m e) f l h = turn_pos m e (lt (dec 180 0) (fin false m e)) refl f h

-- The tithi of an elongation that is a number from 0 to 360: its twelve degrees have begun, and, before the thirtieth, they are not over. Assumes nothing.
use mathlib.Core.Path.{◌≡◌, refl, sym, ap, ◌∙◌, subst}
use mathlib.Core.Bool.{Bool, true, false, cond, true≢false}
use mathlib.Core.Logic.{◌⊎◌, inl, inr}
use Prim.Native.Nat.{ℕ, zero, suc, ◌+◌, ◌-◌, ◌*◌, ◌^◌, ◌≤◌, ◌<◌, zero-le}
use native.Mathlib.Nat.{le_trans, le_of_eq, lt_of_lt_of_le, lt_irrefl, lt_of_not-le, eq-or-lt_of_le, add-zero, mul-one, mul-pos, mul_right_comm, mul-le-mul_right, mul-lt-mul_of_pos_right, le_of_mul-le-mul_right}
use native.Mathlib.Omega.{arith}
use borrow.Author.Tests.{eq-eqb}
use lib.Dec.{T, eqb, eqb→eq, lt→ltb, lit<, lit≤}
use lib.IntN.{ℤ, pos}
use lib.Ieee.{Float, nan, inf, fin, up, down, of_int, le, lt}
use lib.Ieee.Fits.{down_pos, and_r}
use lib.Ieee.Exact.{HasValue}
use lib.Ieee.Order.{le_of_values}
use Rattle.paper.specs.Floats.{whole}
use Rattle.paper.proofs.Within.{up_to}
use Rattle.gregorian.specs.Instants.{instant}
use Rattle.gregorian.proofs.Instants.{whole_value}
use Rattle.sky.specs.Tithi.{elongation_of, twelves, tithi_of}
use Rattle.sky.proofs.Numbers.{elongation_number}

-- ---- a whole number against a float
reached : (K m : ℕ) (e : ℤ) → K < 2 ^ 53 → K * down e ≤ m * up e → T (le (whole (pos K)) (fin false m e))
reached K m e h k = le_of_values (whole (pos K)) (fin false m e) K 1 (m * up e) (down e) (lit< tt) (down_pos e) (whole_value K h) (refl, refl) (le_trans k (le_of_eq (sym (mul-one (m * up e)))))

over_by : (w : Float) (K m : ℕ) (e : ℤ) → HasValue w false K 1 → T (le w (fin false m e)) → K * down e ≤ m * up e
unfolding le
over_by nan K m e v h = absurd v
over_by (inf s) K m e v h = absurd v
over_by (fin true n d) K m e v h = absurd (true≢false v.0)
over_by (fin false n d) K m e v h =
    let q : n * up d * down e ≤ m * up e * down d = up_to (n * up d * down e) (m * up e * down d) h in
    let r : n * up d ≡ K * down d = sym (mul-one (n * up d)) ∙ v.1 in
    le_of_mul-le-mul_right (le_trans (le_of_eq (mul_right_comm K (down e) (down d) ∙ ap (λ (z : ℕ). z * down e) (sym r))) q) (down_pos d)

under_by : (w : Float) (K m : ℕ) (e : ℤ) → HasValue w false K 1 → m * up e < K * down e → T (lt (fin false m e) w)
unfolding lt
under_by nan K m e v h = absurd v
under_by (inf s) K m e v h = absurd v
under_by (fin true n d) K m e v h = absurd (true≢false v.0)
under_by (fin false n d) K m e v h =
    let r : n * up d ≡ K * down d = sym (mul-one (n * up d)) ∙ v.1 in
    lt→ltb (m * up e * down d) (n * up d * down e) (lt_of_lt_of_le (mul-lt-mul_of_pos_right h (down_pos d)) (le_of_eq (mul_right_comm K (down e) (down d) ∙ ap (λ (z : ℕ). z * down e) (sym r))))

-- a zero with a sign is below every whole number above 0, and 0 is not above it
no_zero : (w : Float) (K m : ℕ) (e : ℤ) → 0 < K → HasValue w false K 1 → le w (fin true m e) ≡ true → ⊥
unfolding le
no_zero nan K m e k v h = absurd v
no_zero (inf s) K m e k v h = absurd v
no_zero (fin true n d) K m e k v h = absurd (true≢false v.0)
no_zero (fin false n d) K m e k v h =
    let z = eqb→eq (n * up d * down e) 0 (and_r (eqb (n * up d * down e) (m * up e * down d)) (eqb (n * up d * down e) 0) (subst T (sym h) tt)) in
    let r : n * up d ≡ K * down d = sym (mul-one (n * up d)) ∙ v.1 in
    let q : 0 < K * down d * down e = mul-pos (mul-pos k (down_pos d)) (down_pos e) in
    let y : n * up d * down e ≡ K * down d * down e = ap (λ (x : ℕ). x * down e) r in
    omega arith

below_zero : (w : Float) (K m : ℕ) (e : ℤ) → 0 < K → HasValue w false K 1 → T (lt (fin true m e) w)
unfolding lt
below_zero nan K m e k v = absurd v
below_zero (inf s) K m e k v = absurd v
below_zero (fin true n d) K m e k v = absurd (true≢false v.0)
below_zero (fin false n d) K m e k v =
    let r : n * up d ≡ K * down d = sym (mul-one (n * up d)) ∙ v.1 in
    let q : 0 < K * down d * down e = mul-pos (mul-pos k (down_pos d)) (down_pos e) in
    let y : n * up d * down e ≡ K * down d * down e = ap (λ (x : ℕ). x * down e) r in
    lt→ltb 0 (m * up e * down d + n * up d * down e) (omega arith)

-- ---- the count
record Count (n c u d : ℕ) : Type 0 where
  pub upto : c ≤ n
  pub begun : 12 * c * d ≤ u
  pub ahead : c < n → u < 12 * (c + 1) * d

count_step : (n c u d : ℕ) (b : Bool) → (b ≡ true → 12 * (n + 1) * d ≤ u) → (b ≡ false → u < 12 * (n + 1) * d) → Count n c u d → Count (suc n) (c + cond b 1 0) u d
count_step n c u d true f g k =
    let w = f refl in
    let full : c ≡ n = full_at w in
    record { upto = omega (arith, k.upto); begun = subst (λ (z : ℕ). 12 * z * d ≤ u) (ap (λ (z : ℕ). z + 1) (sym full)) w; ahead = λ h. absurd (omega (arith, full, h)) }
  where
    full_at : 12 * (n + 1) * d ≤ u → c ≡ n
    full_at w = le_antisym k.upto (λ (l : c < n). lt_irrefl u (lt_of_lt_of_le (k.ahead l) (le_trans (mul-le-mul_right d (omega arith)) w)))
      where
        le_antisym : c ≤ n → (c < n → ⊥) → c ≡ n
        le_antisym h q = omega (arith, q)
count_step n c u d false f g k = record { upto = omega (arith, k.upto); begun = rw (add-zero c) k.begun; ahead = λ h. rw (add-zero c) (next (eq-or-lt_of_le k.upto)) }
  where
    next : (c ≡ n) ⊎ (c < n) → u < 12 * (c + 1) * d
    next (inl e) = subst (λ (z : ℕ). u < 12 * (z + 1) * d) (sym e) (g refl)
    next (inr l) = k.ahead l

not_reached : (K m : ℕ) (e : ℤ) → K < 2 ^ 53 → le (whole (pos K)) (fin false m e) ≡ false → m * up e < K * down e
not_reached K m e h q = lt_of_not-le (λ (k : K * down e ≤ m * up e). subst T q (reached K m e h k))

counted : (m : ℕ) (e : ℤ) (n : ℕ) → n ≤ 30 → Count n (twelves (fin false m e) n) (m * up e) (down e)
unfolding twelves
counted m e zero h = record { upto = zero-le; begun = omega arith; ahead = λ l. absurd (omega (arith, l)) }
counted m e (suc n) h =
    let K = 12 * (n + 1) in
    let small : K < 2 ^ 53 = omega arith in
    count_step n (twelves (fin false m e) n) (m * up e) (down e) (le (whole (pos K)) (fin false m e))
    (λ q. over_by (whole (pos K)) K m e (whole_value K small) (subst T (sym q) tt)) (not_reached K m e small)
    (counted m e n (omega arith))

none : (m : ℕ) (e : ℤ) (n : ℕ) → n ≤ 30 → twelves (fin true m e) n ≡ 0
unfolding twelves
none m e zero h = refl
none m e (suc n) h = rw (none m e n (omega arith)) (go (le (whole (pos (12 * (n + 1)))) (fin true m e)) (no_zero (whole (pos (12 * (n + 1)))) (12 * (n + 1)) m e (omega arith) (whole_value (12 * (n + 1)) (omega arith))))
  where
    go : (b : Bool) → (b ≡ true → ⊥) → 0 + cond b 1 0 ≡ 0
    go true q = absurd (q refl)
    go false q = refl

-- ---- what is said of a tithi k of an elongation x
pub record Running (x : Float) (k : ℕ) : Type 0 where
  pub first : 1 ≤ k
  pub last : k ≤ 30
  pub begun : T (le (whole (pos (12 * (k - 1)))) x)
  pub not_over : k < 30 → T (lt x (whole (pos (12 * k))))

one_more : (c : ℕ) → 1 + c - 1 ≡ c
one_more c = omega arith

from_count : (m : ℕ) (e : ℤ) (c : ℕ) → Count 29 c (m * up e) (down e) → Running (fin false m e) (1 + c)
from_count m e c k = record {
  first = omega arith;
  last = omega (arith, k.upto);
  begun = rw (one_more c) (reached (12 * c) m e (omega (arith, k.upto)) k.begun);
  not_over = λ l. under_by (whole (pos (12 * (1 + c)))) (12 * (1 + c)) m e (whole_value (12 * (1 + c)) (omega (arith, l))) (subst (λ (z : ℕ). m * up e < 12 * z * down e) (swap c) (k.ahead (omega (arith, l))));
}
  where
    swap : (c : ℕ) → c + 1 ≡ 1 + c
    swap c = omega arith

zero_begun : (m : ℕ) (e : ℤ) → m * up e ≡ 0 → T (le (whole (pos 0)) (fin true m e))
unfolding le of_int
zero_begun m e z =
    let a : 0 * down e ≡ m * up e * 1 = omega arith in
    let b : 0 * down e ≡ 0 = omega arith in
    rw (eq-eqb (0 * down e) (m * up e * 1) a, eq-eqb (0 * down e) 0 b) tt

running : (s : Bool) (m : ℕ) (e : ℤ) → (s ≡ false) ⊎ (m * up e ≡ 0) → Running (fin s m e) (tithi_of (fin s m e))
unfolding tithi_of
running false m e g = from_count m e (twelves (fin false m e) 29) (counted m e 29 (lit≤ tt))
running true m e (inl q) = absurd (subst T q tt)
running true m e (inr z) =
    rw (none m e 29 (lit≤ tt))
    (record { first = lit≤ tt; last = lit≤ tt; begun = zero_begun m e z; not_over = λ l. below_zero (whole (pos 12)) 12 m e (lit< tt) (whole_value 12 (lit< tt)) })

pub tithi_running : (ut : Float) → T (instant ut) → Running (elongation_of ut) (tithi_of (elongation_of ut))
tithi_running ut h = let u = elongation_number ut h in rw u.is (running u.s u.m u.e u.sign)

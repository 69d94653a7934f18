-- What is left of a float after whole multiples of n: of a small one itself, of a large one its digits' remainder. Assumes nothing.
use mathlib.Core.Path.{◌≡◌, refl, sym, ap, ◌∙◌, subst}
use mathlib.Core.Bool.{Bool, true, false, cond, not, true≢false}
use Prim.Native.Nat.{ℕ, zero, suc, ◌+◌, ◌-◌, ◌*◌, ◌/◌, ◌%◌, ◌^◌, ◌≤◌, ◌<◌}
use native.Mathlib.Nat.{mul-pos, mul_assoc, mul_comm, mul_right_comm, mul_left_comm, mul-one, one-mul, zero-mul, mod-lt, mod-eq_of_lt, le_of_mul-le-mul_right, lt_of_mul-lt-mul_right, lt_of_lt_of_le, lt_of_le_of_lt, le_trans, le_of_eq, lt_irrefl, lt_of_not-le, mul-le-mul_right}
use native.Mathlib.Omega.{arith}
use lib.IntN.{ℤ, pos}
use lib.Dec.{T, ltb, eqb, lt→ltb, lit<}
use lib.Pow.{pow-add, pow_pos, pow_mono, shl_lt}
use borrow.Author.Tests.{ltb-true, ltb-false, ne_eqb}
use lib.Ieee.{Float, nan, inf, fin, binary64, up, down, round, div, rem, neg, lt, fits, of_bits, unlike}
use lib.Ieee.Fits.{up_pos, down_pos}
use lib.Ieee.Exact.{HasValue}
use lib.Ieee.Scale.{round_same}
use lib.Ieee.Positive.{num, den, positive}
use Rattle.std.specs.Float.{float_is_finite}
use Rattle.paper.specs.Floats.{◌⊕◌, ◌⊘◌, dec, bits, whole}
use Rattle.paper.proofs.Tests.{never}
use Rattle.paper.proofs.Within.{round_neg}
use Rattle.gregorian.proofs.Instants.{whole_value}
use Rattle.trig.proofs.Signs.{neg_neg, neg_lt_zero, not_both}
use Rattle.sky.proofs.Scaling.{scaled}
use Rattle.sky.proofs.OwnFraction.{own_round}
use Rattle.sky.proofs.Patterns.{Pattern}

-- ---- by fractions

not_zero : (p u n d : ℕ) → 0 < n → 0 < d → p * u * 1 ≡ n * d → p ≡ 0 → ⊥
not_zero p u n d N D h e =
    let z : 0 ≡ n * d = sym (ap (λ (k : ℕ). k * u * 1) e ∙ ap (λ (k : ℕ). k * 1) (zero-mul u)) ∙ h in
    let l = mul-pos N D in
    omega arith

-- (A / E) % (N / D) is (a % (n * c)) / c, where A / E is a / c and N / D is n
crossed : (A E N D a c n : ℕ) → 0 < E → 0 < D → 0 < c → 0 < n → A * c ≡ a * E → N * 1 ≡ n * D → A * D % (N * E) * c ≡ a % (n * c) * (E * D)
crossed A E N D a c n Ep Dp C Np v w =
    let left : A * D * c ≡ a * (E * D) = mul_right_comm A D c ∙ ap (λ (k : ℕ). k * D) v ∙ mul_assoc a E D in
    let right : N * E * c ≡ n * c * (E * D) =
    ap (λ (k : ℕ). k * E * c) (sym (mul-one N) ∙ w) ∙ mul_right_comm (n * D) E c ∙ ap (λ (k : ℕ). k * E) (mul_right_comm n D c) ∙ mul_assoc (n * c) D E ∙ ap (λ (k : ℕ). n * c * k) (mul_comm D E) in
    let Nq : 0 < N = positive_product N n D Np Dp w in
    sym (scaled (A * D) (N * E) c (mul-pos Nq Ep) C) ∙ (λ i. left i % right i) ∙ scaled a (n * c) (E * D) (mul-pos Np C) (mul-pos Ep Dp)
  where
    positive_product : (x y z : ℕ) → 0 < y → 0 < z → x * 1 ≡ y * z → 0 < x
    positive_product x y z Y Z h = let l = mul-pos Y Z in omega arith

rem_value : (x y : Float) (s : Bool) (a c n : ℕ) → 0 < c → 0 < n → HasValue x s a c → HasValue y false n 1 → rem binary64 x y ≡ round binary64 s (a % (n * c)) c
unfolding rem
rem_value nan y s a c n C N v w = absurd v
rem_value (inf t) y s a c n C N v w = absurd v
rem_value (fin r m e) nan s a c n C N v w = absurd w
rem_value (fin r m e) (inf t) s a c n C N v w = absurd w
rem_value (fin r m e) (fin u p d) s a c n C N v w =
    let A = m * up e in
    let P = p * up d in
    ap (λ (b : Bool). cond b nan (round binary64 r (A * down d % (P * down e)) (down e * down d))) (ne_eqb p 0 (not_zero p (up d) n (down d) N (down_pos d) w.1))
    ∙ ap (λ (t : Bool). round binary64 t (A * down d % (P * down e)) (down e * down d)) v.0
    ∙ round_same binary64 s (A * down d % (P * down e)) (down e * down d) (a % (n * c)) c (mul-pos (down_pos e) (down_pos d)) C
    (crossed A (down e) P (down d) a c n (down_pos e) (down_pos d) C N v.1 w.1)

quotient : (A E P D a b : ℕ) → A * 1 ≡ a * E → P * 1 ≡ b * D → A * D * b ≡ a * (P * E)
quotient A E P D a b v w =
    let ends : a * E * D * b ≡ a * (b * D * E) = simp (mul_assoc, mul_comm, mul_left_comm) in
    ap (λ (k : ℕ). k * D * b) (sym (mul-one A) ∙ v) ∙ ends ∙ ap (λ (k : ℕ). a * (k * E)) (sym w ∙ mul-one P)

divisor : (P E D b : ℕ) → 0 < E → 0 < D → 0 < b → P * 1 ≡ b * D → 0 < P * E
divisor P E D b Ep Dp B w = subst (λ (k : ℕ). 0 < k * E) (sym w ∙ mul-one P) (mul-pos (mul-pos B Dp) Ep)

pub div_value : (x y : Float) (a b : ℕ) → 0 < b → HasValue x false a 1 → HasValue y false b 1 → div binary64 x y ≡ round binary64 false a b
unfolding div
div_value nan y a b B v w = absurd v
div_value (inf t) y a b B v w = absurd v
div_value (fin r m e) nan a b B v w = absurd w
div_value (fin r m e) (inf t) a b B v w = absurd w
div_value (fin r m e) (fin u p d) a b B v w =
    let A = m * up e in
    let P = p * up d in
    ap (λ (t : Bool). cond t (cond (eqb m 0) nan (inf (unlike r u))) (round binary64 (unlike r u) (A * down d) (P * down e))) (ne_eqb p 0 (not_zero p (up d) b (down d) B (down_pos d) w.1))
    ∙ (λ i. round binary64 (unlike (v.0 i) (w.0 i)) (A * down d) (P * down e))
    ∙ round_same binary64 false (A * down d) (P * down e) a b (divisor P (down e) (down d) b (down_pos e) (down_pos d) B w.1) B (quotient A (down e) P (down d) a b v.1 w.1)

-- ---- numbers below n

-- x is a number whose size is below n
abbrev Below : ℕ → Float → Type 0
Below n x = (s : Bool) × (m : ℕ) × (e : ℤ) × (x ≡ fin s m e) × (m * up e < n * down e)

less : (A D P E n : ℕ) → P * 1 ≡ n * D → A * D < P * E → A < n * E
less A D P E n w h = lt_of_mul-lt-mul_right D (lt_of_lt_of_le h (le_of_eq (ap (λ (k : ℕ). k * E) (sym (mul-one P) ∙ w) ∙ mul_right_comm n D E)))

zero_less : (A D P E n : ℕ) → P * 1 ≡ n * D → A * 1 + 0 * E ≤ 0 → 0 < A * D + P * E → A < n * E
zero_less A D P E n w a h =
    let z : A ≡ 0 = omega arith in
    let t : A * D ≡ 0 = ap (λ (k : ℕ). k * D) z ∙ zero-mul D in
    less A D P E n w (omega arith)

below : (x y : Float) (n : ℕ) → HasValue y false n 1 → lt x y ≡ true → lt x (fin false 0 (pos 0)) ≡ false → Below n x
unfolding lt
below nan y n w h q = absurd (true≢false (sym h))
below (inf true) y n w h q = absurd (true≢false q)
below (inf false) nan n w h q = absurd w
below (inf false) (inf t) n w h q = absurd w
below (inf false) (fin u p d) n w h q = absurd (true≢false (sym h))
below (fin s m e) nan n w h q = absurd w
below (fin s m e) (inf t) n w h q = absurd w
below (fin s m e) (fin true p d) n w h q = absurd (true≢false w.0)
below (fin false m e) (fin false p d) n w h q =
    (false, m, e, refl, less (m * up e) (down d) (p * up d) (down e) n w.1 (ltb-true (m * up e * down d) (p * up d * down e) h))
below (fin true m e) (fin false p d) n w h q =
    (true, m, e, refl, zero_less (m * up e) (down d) (p * up d) (down e) n w.1 (ltb-false 0 (m * up e * 1 + 0 * down e) q) (ltb-true 0 (m * up e * down d + p * up d * down e) h))

some : (A n E : ℕ) → A < n * E → 0 < n
some A zero E h = absurd (omega (arith, zero-mul E))
some A (suc n) E h = omega arith

small_left : (x y : Float) (n : ℕ) → T (fits binary64 x) → HasValue y false n 1 → Below n x → rem binary64 x y ≡ x
small_left x y n f w b =
    let s = b.0 in
    let m = b.1 in
    let e = b.2 in
    let is : x ≡ fin s m e = b.3 in
    let l : m * up e < n * down e = b.4 in
    let v : HasValue x s (m * up e) (down e) = subst (λ (z : Float). HasValue z s (m * up e) (down e)) (sym is) (refl, refl) in
    rem_value x y s (m * up e) (down e) n (down_pos e) (some (m * up e) n (down e) l) v w
    ∙ ap (λ (k : ℕ). round binary64 s k (down e)) (mod-eq_of_lt l)
    ∙ own_round s m e (subst (λ (z : Float). T (fits binary64 z)) is f)
    ∙ sym is

zero_is : bits 0 ≡ fin false 0 (pos 0)
unfolding of_bits
zero_is = refl

pub small_is : (x : Float) (n : ℕ) → fits binary64 x ≡ true → n < 2 ^ 32 → lt x (bits 0) ≡ false → lt x (whole (pos n)) ≡ true → x ≡ rem binary64 x (whole (pos n))
small_is x n f W q h =
    let w = whole_value n (omega arith) in
    sym (small_left x (whole (pos n)) n (subst T (sym f) tt) w (below x (whole (pos n)) n w h (ap (lt x) (sym zero_is) ∙ q)))

-- ---- numbers of at least n

more : (A D P E n : ℕ) → 0 < D → P * 1 ≡ n * D → P * E ≤ A * D → n * E ≤ A
more A D P E n Dp w h = le_of_mul-le-mul_right (le_trans (le_of_eq (mul_right_comm n E D ∙ ap (λ (k : ℕ). k * E) (sym w ∙ mul-one P))) h) Dp

not_zero_size : (m u n E : ℕ) → 0 < n → 0 < E → n * E ≤ m * u → T (ltb 0 m)
not_zero_size zero u n E N Ep h = let l = mul-pos N Ep in absurd (omega (arith, zero-mul u))
not_zero_size (suc m) u n E N Ep h = lt→ltb 0 (suc m) (omega arith)

pub at_least : (x y : Float) (n : ℕ) → 0 < n → HasValue y false n 1 → float_is_finite x ≡ true → lt x y ≡ false → T (positive x) × (n * den x ≤ num x)
unfolding lt float_is_finite
at_least nan y n N w f h = absurd (true≢false (sym f))
at_least (inf s) y n N w f h = absurd (true≢false (sym f))
at_least (fin s m e) nan n N w f h = absurd w
at_least (fin s m e) (inf t) n N w f h = absurd w
at_least (fin s m e) (fin true p d) n N w f h = absurd (true≢false w.0)
at_least (fin true m e) (fin false p d) n N w f h =
    let l = divisor (p * up d) (down e) (down d) n (down_pos e) (down_pos d) N w.1 in
    let g = ltb-false 0 (m * up e * down d + p * up d * down e) h in
    absurd (omega arith)
at_least (fin false m e) (fin false p d) n N w f h =
    let g = more (m * up e) (down d) (p * up d) (down e) n (down_pos d) w.1 (ltb-false (m * up e * down d) (p * up d * down e) h) in
    (not_zero_size m (up e) n (down e) N (down_pos e) g, g)

-- the pattern of a number of at least n, and what is left of the number by its digits
module _ {n b : ℕ} {x : Float} (N : 0 < n) (p : Pattern n b x) where
  abbrev D : ℕ
  D = b % 2 ^ 52 + 2 ^ 52

  pub few : D < 2 ^ 53
  few = let h = mod-lt b (pow_pos 52) in omega arith

  pub from : 1023 ≤ b / 2 ^ 52
  from =
      let h : 2 ^ 1074 < 2 ^ (53 + p.j) =
      lt_of_le_of_lt (le_trans (le_of_eq (sym (one-mul (2 ^ 1074)))) (mul-le-mul_right (2 ^ 1074) N)) (lt_of_le_of_lt p.large (shl_lt 53 p.j few)) in
      let l : 1074 < 53 + p.j = lt_of_not-le (λ (g : 53 + p.j ≤ 1074). lt_irrefl (2 ^ 1074) (lt_of_lt_of_le h (pow_mono g))) in
      let e = p.exponent in
      omega arith

  left : (y : Float) → HasValue y false n 1 → rem binary64 x y ≡ round binary64 false (D * 2 ^ p.j % (n * 2 ^ 1074)) (2 ^ 1074)
  left y w = rem_value x y false (D * 2 ^ p.j) (2 ^ 1074) n (pow_pos 1074) N p.value w

  -- the digits after the point
  module _ (few_places : b / 2 ^ 52 < 1075) where
    abbrev places : ℕ
    places = 1075 - b / 2 ^ 52

    in_all : places + p.j ≡ 1074
    in_all = let e = p.exponent in omega arith

    pub places_lt : places < 53
    places_lt = let h = from in omega arith

    unit : n * 2 ^ 1074 ≡ n * 2 ^ places * 2 ^ p.j
    unit = ap (λ (k : ℕ). n * k) (ap (λ (k : ℕ). 2 ^ k) (sym in_all) ∙ pow-add 2 places p.j) ∙ sym (mul_assoc n (2 ^ places) (2 ^ p.j))

    pub within : n * 2 ^ places ≤ D
    within = le_of_mul-le-mul_right (le_trans (le_of_eq (sym unit)) p.large) (pow_pos p.j)

    pub near_left : (y : Float) → HasValue y false n 1 → rem binary64 x y ≡ round binary64 false (D % (n * 2 ^ places)) (2 ^ places)
    near_left y w =
        left y w
        ∙ ap (λ (k : ℕ). round binary64 false (D * 2 ^ p.j % k) (2 ^ 1074)) unit
        ∙ ap (λ (k : ℕ). round binary64 false k (2 ^ 1074)) (scaled D (n * 2 ^ places) (2 ^ p.j) (mul-pos N (pow_pos places)) (pow_pos p.j))
        ∙ round_same binary64 false (D % (n * 2 ^ places) * 2 ^ p.j) (2 ^ 1074) (D % (n * 2 ^ places)) (2 ^ places) (pow_pos 1074) (pow_pos places)
        (mul_assoc (D % (n * 2 ^ places)) (2 ^ p.j) (2 ^ places) ∙ ap (λ (k : ℕ). D % (n * 2 ^ places) * k) (mul_comm (2 ^ p.j) (2 ^ places) ∙ sym (pow-add 2 places p.j) ∙ ap (λ (k : ℕ). 2 ^ k) in_all))

  -- no digit after the point
  module _ (no_places : 1075 ≤ b / 2 ^ 52) where
    abbrev times : ℕ
    times = b / 2 ^ 52 - 1075

    over : times + 1074 ≡ p.j
    over = let e = p.exponent in omega arith

    pub far_left : (y : Float) → HasValue y false n 1 → rem binary64 x y ≡ round binary64 false (D * 2 ^ times % n) 1
    far_left y w =
        left y w
        ∙ ap (λ (k : ℕ). round binary64 false (k % (n * 2 ^ 1074)) (2 ^ 1074)) (ap (λ (k : ℕ). D * k) (ap (λ (k : ℕ). 2 ^ k) (sym over) ∙ pow-add 2 times 1074) ∙ sym (mul_assoc D (2 ^ times) (2 ^ 1074)))
        ∙ ap (λ (k : ℕ). round binary64 false k (2 ^ 1074)) (scaled (D * 2 ^ times) n (2 ^ 1074) N (pow_pos 1074))
        ∙ round_same binary64 false (D * 2 ^ times % n * 2 ^ 1074) (2 ^ 1074) (D * 2 ^ times % n) 1 (pow_pos 1074) (lit< tt) (mul-one (D * 2 ^ times % n * 2 ^ 1074))

-- ---- no number, an infinity, and n = 0

no_number : bits 0 ⊘ bits 0 ≡ nan
unfolding div of_bits
no_number = refl

pub not_finite : (x y : Float) → float_is_finite x ≡ false → bits 0 ⊘ bits 0 ≡ rem binary64 x y
unfolding rem float_is_finite
not_finite nan y f = no_number
not_finite (inf s) y f = no_number
not_finite (fin s m e) y f = absurd (true≢false f)

zero_times : (p u D : ℕ) → 0 < u → p * u * 1 ≡ 0 * D → eqb p 0 ≡ true
zero_times zero u D U h = refl
zero_times (suc p) u D U h = let l = mul-pos {m = suc p} {n = u} (omega arith) U in absurd (omega (arith, zero-mul D))

by_zero : (x y : Float) → HasValue y false 0 1 → rem binary64 x y ≡ nan
unfolding rem
by_zero nan y w = refl
by_zero (inf s) y w = refl
by_zero (fin s m e) nan w = refl
by_zero (fin s m e) (inf t) w = absurd w
by_zero (fin s m e) (fin u p d) w =
    ap (λ (b : Bool). cond b nan (round binary64 s (m * up e * down d % (p * up d * down e)) (down e * down d))) (zero_times p (up d) (down d) (up_pos d) w.1)

pub none_of_zero : (x : Float) (n : ℕ) → n ≤ 0 → bits 0 ⊘ bits 0 ≡ rem binary64 x (whole (pos n))
none_of_zero x zero h = no_number ∙ sym (by_zero x (whole (pos 0)) (whole_value 0 (omega arith)))
none_of_zero x (suc n) h = absurd (omega arith)

-- ---- below zero

turned_round : (b s : Bool) (a c : ℕ) → neg (cond b nan (round binary64 (not s) a c)) ≡ cond b nan (round binary64 s a c)
turned_round true s a c = unfold neg in refl
turned_round false true a c = sym (round_neg binary64 a c)
turned_round false false a c = ap neg (round_neg binary64 a c) ∙ neg_neg (round binary64 false a c)

pub turned : (x y : Float) → neg (rem binary64 (neg x) y) ≡ rem binary64 x y
unfolding rem neg
turned nan y = refl
turned (inf s) y = refl
turned (fin s m e) nan = refl
turned (fin true m e) (inf t) = refl
turned (fin false m e) (inf t) = refl
turned (fin s m e) (fin t n d) = turned_round (eqb n 0) s (m * up e * down d % (n * up d * down e)) (down e * down d)

pub above_turned : (x : Float) → lt x (bits 0) ≡ true → lt (neg x) (bits 0) ≡ false
above_turned x h = neg_lt_zero x ∙ never (lt (bits 0) x) (λ (p : lt (bits 0) x ≡ true). not_both x p h)

-- ---- brought up from below zero

-- the remainder by k, and k more where it is below zero
pub brought_up : (x k r : Float) (b : Bool) → r ≡ rem binary64 x k → lt r (dec 0 0) ≡ b
    → cond b (r ⊕ k) r ≡ (let z = rem binary64 x k in cond (lt z (dec 0 0)) (z ⊕ k) z)
brought_up x k r b e t = ap (λ (y : Bool). cond y (r ⊕ k) r) (sym t) ∙ (λ i. cond (lt (e i) (dec 0 0)) (e i ⊕ k) (e i))

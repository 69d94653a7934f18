-- Bounds on the size of floats: `Within j B x` says that x is a number, neither NaN nor an infinity, of size at most B / 2 ^ j.
-- A result that lies within such a bound before rounding lies within it after, for a B below 2 ^ 53: such a bound is a float itself, and rounding keeps the order.
-- The bound of a formula of sums, differences, products and quotients by constants is worked out by the checker, so a bound on the whole is one line. Assumes nothing.
use mathlib.Core.Path.{◌≡◌, refl, sym, ap, ◌∙◌, subst}
use mathlib.Core.Bool.{Bool, true, false, cond, ◌&&◌, ◌||◌, beq, true≢false}
use mathlib.Core.Logic.{inl, inr}
use Prim.Native.Nat.{ℕ, zero, suc, ◌+◌, ◌-◌, ◌*◌, ◌/◌, ◌^◌, ◌≤◌, ◌<◌}
use native.Mathlib.Nat.{le_trans, le_of_eq, le_of_lt, zero-mul, mul_comm, mul_assoc, mul-one, mul_right_comm, mul-le-mul_right, mul-le-mul, mul-mul-mul_comm, mul-pos, add-mul, le_of_mul-le-mul_right, div-lt_iff_lt-mul, lt_of_le_of_lt, lt_of_lt_of_le, lt_irrefl, eq-or-lt_of_le}
use native.Mathlib.Omega.{arith}
use lib.IntN.{ℤ, pos, negsuc, nat_abs}
use lib.Dec.{T, leb, ltb, eqb, leb→le, le→leb, ltb→lt, lt→ltb, eqb→eq, eqb-suc-zero, lit<}
use lib.Pow.{pow-add, pow_pos, pow_mono, shl_lt}
use lib.Ieee.{Float, nan, inf, fin, Format, binary64, prec, emax, low, up, down, unlike, odd, units, round, neg, sum, add, sub, mul, div, below, level, le, of_int}
use lib.Ieee.Fits.{up_pos, down_pos, and_i, and_l, and_r, eq→eqb}
use lib.Ieee.Exact.{HasValue, round_exact}
use lib.Ieee.Order.{round_mono}
use lib.Ieee.Positive.{num, den, positive}
use lib.Ieee.Scale.{finite}

abbrev pub Size : ℕ → ℕ → Float → Type 0
Size j B nan = ⊥
Size j B (inf s) = ⊥
Size j B (fin s m e) = m * up e * 2 ^ j ≤ B * down e

-- a record, so that the bound is read off a fact's type
pub record Within (j B : ℕ) (x : Float) : Type 0 where
  pub size : Size j B x
  pub unit : j ≤ 1074

-- ---- rounding
fits : (j : ℕ) → 53 + (1074 - j) ≤ 2098
fits j = omega arith

back : (j : ℕ) → j ≤ 1074 → 1074 ≡ 1074 - j + j
back j h = omega arith

-- B / 2 ^ j is a float
pub held_exactly : (j B : ℕ) → j ≤ 1074 → B < 2 ^ 53 → HasValue (round binary64 false B (2 ^ j)) false B (2 ^ j)
held_exactly j B u h =
    round_exact binary64 false B (2 ^ j) B (1074 - j) (pow_pos j) h (lt_of_lt_of_le (shl_lt 53 (1074 - j) h) (pow_mono (fits j)))
    (ap (λ (k : ℕ). B * 2 ^ k) (back j u) ∙ ap (λ (k : ℕ). B * k) (pow-add 2 (1074 - j) j) ∙ sym (mul_assoc B (2 ^ (1074 - j)) (2 ^ j)))

-- ---- tests on numbers as comparisons of floats have them: below, or level
pub or_cases : (a b : Bool) {C : Type 0} → (T a → C) → (T b → C) → T (a || b) → C
or_cases true b f g t = f tt
or_cases false b f g t = g t

pub up_to : (a b : ℕ) → T (ltb a b || (eqb a b && true)) → a ≤ b
up_to a b h = or_cases (ltb a b) (eqb a b && true) (λ p. le_of_lt (ltb→lt a b p)) (λ p. le_of_eq (eqb→eq a b (and_l (eqb a b) true p))) h

pub down_to : (a b : ℕ) → T (ltb b a || (eqb a b && true)) → b ≤ a
down_to a b h = or_cases (ltb b a) (eqb a b && true) (λ p. le_of_lt (ltb→lt b a p)) (λ p. le_of_eq (sym (eqb→eq a b (and_l (eqb a b) true p)))) h

-- a / c ≤ n / d and n / d ≤ B / u
cancel : (a n c d B u : ℕ) → 0 < d → n * u ≤ B * d → a * d ≤ n * c → a * u ≤ B * c
cancel a n c d B u D h k =
    le_of_mul-le-mul_right
    (le_trans (le_of_eq (mul_right_comm a u d)) (le_trans (mul-le-mul_right u k) (le_trans (le_of_eq (mul_right_comm n c u)) (le_trans (mul-le-mul_right c h) (le_of_eq (mul_right_comm B d c))))))
    D

from_zero : (j B : ℕ) (z w : Float) → T (le (fin false 0 (pos 0)) z) → T (le z w) → HasValue w false B (2 ^ j) → Size j B z
unfolding le
from_zero j B nan w l h v = absurd l
from_zero j B (inf true) w l h v = absurd l
from_zero j B (inf false) nan l h v = absurd h
from_zero j B (inf false) (inf t) l h v = absurd v
from_zero j B (inf false) (fin t n d) l h v = absurd h
from_zero j B (fin true m e) w l h v =
    let z = eqb→eq (0 * down e) (m * up e * 1) (and_l (eqb (0 * down e) (m * up e * 1)) (eqb (0 * down e) 0) l) in
    let y : m * up e ≡ 0 = omega arith in
    let x : m * up e * 2 ^ j ≡ 0 = ap (λ (k : ℕ). k * 2 ^ j) y ∙ zero-mul (2 ^ j) in
    omega arith
from_zero j B (fin false m e) nan l h v = absurd h
from_zero j B (fin false m e) (inf t) l h v = absurd v
from_zero j B (fin false m e) (fin true n d) l h v = absurd (true≢false v.0)
from_zero j B (fin false m e) (fin false n d) l h v = cancel (m * up e) (n * up d) (down e) (down d) B (2 ^ j) (down_pos d) (le_of_eq v.1) (up_to (m * up e * down d) (n * up d * down e) h)

odd_neg : (d q k l : ℕ) → odd d true q k l ≡ neg (odd d false q k l)
unfolding odd neg
odd_neg d zero k l = refl
odd_neg d (suc q) k l = refl

pick_neg : (b : Bool) (x y : Float) → x ≡ neg y → cond b x (inf true) ≡ neg (cond b y (inf false))
unfolding neg
pick_neg true x y h = h
pick_neg false x y h = refl

units_neg : (f : Format) (q k : ℕ) → units f true q k ≡ neg (units f false q k)
unfolding units
units_neg f q k =
    pick_neg (ltb (q * 2 ^ k) (2 ^ (low f + suc (emax f)))) (odd (suc (prec f)) true q k (low f)) (odd (suc (prec f)) false q k (low f))
    (odd_neg (suc (prec f)) q k (low f))

pub round_neg : (f : Format) (n d : ℕ) → round f true n d ≡ neg (round f false n d)
unfolding round
round_neg f n d = units_neg f _ _

neg_size : (j B : ℕ) (x : Float) → Size j B x → Size j B (neg x)
unfolding neg
neg_size j B nan h = h
neg_size j B (inf s) h = h
neg_size j B (fin s m e) h = h

zero_is : round binary64 false 0 1 ≡ fin false 0 (pos 0)
unfolding round
zero_is = refl

round_up : (j a c B : ℕ) → j ≤ 1074 → 0 < c → B < 2 ^ 53 → a * 2 ^ j ≤ B * c → Size j B (round binary64 false a c)
round_up j a c B u C h k =
    from_zero j B (round binary64 false a c) (round binary64 false B (2 ^ j))
    (subst (λ (z : Float). T (le z (round binary64 false a c))) zero_is (round_mono binary64 0 1 a c (lit< tt) C (omega arith)))
    (round_mono binary64 a c B (2 ^ j) C (pow_pos j) k) (held_exactly j B u h)

pub round_size : (j : ℕ) (s : Bool) (a c B : ℕ) → j ≤ 1074 → 0 < c → B < 2 ^ 53 → a * 2 ^ j ≤ B * c → Size j B (round binary64 s a c)
round_size j false a c B u C h k = round_up j a c B u C h k
round_size j true a c B u C h k = subst (Size j B) (sym (round_neg binary64 a c)) (neg_size j B (round binary64 false a c) (round_up j a c B u C h k))

-- ---- the laws of the operations
pub negated : {j B : ℕ} {x : Float} → Within j B x → Within j B (neg x)
negated {j} {B} {x} p = record { size = neg_size j B x p.size; unit = p.unit }

pub widen : {j A : ℕ} {x : Float} (B : ℕ) → T (leb A B) → Within j A x → Within j B x
widen {j} {A} {x} B t p = record { size = go x p.size; unit = p.unit }
  where
    go : (x : Float) → Size j A x → Size j B x
    go nan h = h
    go (inf s) h = h
    go (fin s m e) h = le_trans h (mul-le-mul_right (down e) (leb→le A B t))

-- a whole bound in smaller units
pub refined : (j : ℕ) {A : ℕ} {x : Float} → T (leb j 1074) → Within 0 A x → Within j (A * 2 ^ j) x
refined j {A} {x} t p = record { size = go x p.size; unit = leb→le j 1074 t }
  where
    go : (x : Float) → Size 0 A x → Size j (A * 2 ^ j) x
    go nan h = h
    go (inf s) h = h
    go (fin s m e) h = le_trans (mul-le-mul_right (2 ^ j) (le_trans (le_of_eq (sym (mul-one (m * up e)))) h)) (le_of_eq (mul_right_comm A (down e) (2 ^ j)))

sum_size : (j : ℕ) (s : Bool) (a : ℕ) (t : Bool) (b c A B : ℕ) → j ≤ 1074 → 0 < c → A + B < 2 ^ 53 → a * 2 ^ j ≤ A * c → b * 2 ^ j ≤ B * c → Size j (A + B) (sum binary64 s a t b c)
unfolding sum
sum_size j s a t b c A B u C h p q = go (beq s t) (ltb a b)
  where
    -- each case's size is at most a + b
    small : (x : ℕ) → x ≤ a + b → x * 2 ^ j ≤ (A + B) * c
    small x k =
        let f = mul-le-mul_right (2 ^ j) k in
        let g = add-mul a b (2 ^ j) in
        let e = add-mul A B c in
        omega arith

    go : (x y : Bool) → Size j (A + B) (cond x (round binary64 s (a + b) c) (cond y (round binary64 t (b - a) c) (round binary64 (s && ltb b a) (a - b) c)))
    go true y = round_size j s (a + b) c (A + B) u C h (small (a + b) (omega arith))
    go false true = round_size j t (b - a) c (A + B) u C h (small (b - a) (omega arith))
    go false false = round_size j (s && ltb b a) (a - b) c (A + B) u C h (small (a - b) (omega arith))

-- the same size over a further divisor d
finer : (x u A c d : ℕ) → x * u ≤ A * c → x * d * u ≤ A * (c * d)
finer x u A c d h = le_trans (le_of_eq (mul_right_comm x d u)) (le_trans (mul-le-mul_right d h) (le_of_eq (mul_assoc A c d)))

finer' : (x u A c d : ℕ) → x * u ≤ A * d → x * c * u ≤ A * (c * d)
finer' x u A c d h = le_trans (finer x u A d c h) (le_of_eq (ap (λ (k : ℕ). A * k) (mul_comm d c)))

add_size : (j A B : ℕ) (x y : Float) → j ≤ 1074 → A + B < 2 ^ 53 → Size j A x → Size j B y → Size j (A + B) (add binary64 x y)
unfolding add
add_size j A B nan y u h p q = absurd p
add_size j A B (inf s) y u h p q = absurd p
add_size j A B (fin s m e) nan u h p q = absurd q
add_size j A B (fin s m e) (inf t) u h p q = absurd q
add_size j A B (fin s m e) (fin t n d) u h p q =
    sum_size j s (m * up e * down d) t (n * up d * down e) (down e * down d) A B u (mul-pos (down_pos e) (down_pos d)) h
    (finer (m * up e) (2 ^ j) A (down e) (down d) p) (finer' (n * up d) (2 ^ j) B (down e) (down d) q)

pub plus : {j A B : ℕ} {x y : Float} → Within j A x → Within j B y → T (ltb (A + B) (2 ^ 53)) → Within j (A + B) (add binary64 x y)
plus {j} {A} {B} {x} {y} p q t = record { size = add_size j A B x y p.unit (ltb→lt (A + B) (2 ^ 53) t) p.size q.size; unit = p.unit }

-- over bounds that are not written out
pub plus_up : {j A B : ℕ} {x y : Float} (C : ℕ) → Within j A x → Within j B y → A + B ≤ C → C < 2 ^ 53 → Within j C (add binary64 x y)
plus_up {j} {A} {B} C p q h k = widen C (le→leb (A + B) C h) (plus p q (lt→ltb (A + B) (2 ^ 53) (lt_of_le_of_lt h k)))

pub sub_is : (x y : Float) → add binary64 x (neg y) ≡ sub binary64 x y
unfolding sub
sub_is x y = refl

pub less : {j A B : ℕ} {x y : Float} → Within j A x → Within j B y → T (ltb (A + B) (2 ^ 53)) → Within j (A + B) (sub binary64 x y)
less {j} {A} {B} {x} {y} p q t = subst (Within j (A + B)) (sub_is x y) (plus p (negated q) t)

-- a whole number above n / d
abbrev pub over : ℕ → ℕ → ℕ
over n d = n / d + 1

over_le : (n d : ℕ) → 0 < d → n ≤ over n d * d
over_le n d D = le_of_lt ((div-lt_iff_lt-mul D).0 (omega arith))

-- x ≤ A / u and y ≤ B / u, so x * y ≤ (A * B / u) / u
product : (x y c d u A B : ℕ) → 0 < u → x * u ≤ A * c → y * u ≤ B * d → x * y * u ≤ over (A * B) u * (c * d)
product x y c d u A B U p q =
    le_of_mul-le-mul_right
    (le_trans (le_of_eq (mul_assoc (x * y) u u ∙ mul-mul-mul_comm x y u u))
    (le_trans (mul-le-mul p q)
    (le_trans (le_of_eq (mul-mul-mul_comm A c B d))
    (le_trans (mul-le-mul_right (c * d) (over_le (A * B) u U)) (le_of_eq (mul_right_comm (over (A * B) u) u (c * d)))))))
    U

mul_size : (j A B : ℕ) (x y : Float) → j ≤ 1074 → over (A * B) (2 ^ j) < 2 ^ 53 → Size j A x → Size j B y → Size j (over (A * B) (2 ^ j)) (mul binary64 x y)
unfolding mul
mul_size j A B nan y u h p q = absurd p
mul_size j A B (inf s) y u h p q = absurd p
mul_size j A B (fin s m e) nan u h p q = absurd q
mul_size j A B (fin s m e) (inf t) u h p q = absurd q
mul_size j A B (fin s m e) (fin t n d) u h p q =
    round_size j (unlike s t) (m * up e * (n * up d)) (down e * down d) (over (A * B) (2 ^ j)) u (mul-pos (down_pos e) (down_pos d)) h
    (product (m * up e) (n * up d) (down e) (down d) (2 ^ j) A B (pow_pos j) p q)

pub times : {j A B : ℕ} {x y : Float} → Within j A x → Within j B y → T (ltb (over (A * B) (2 ^ j)) (2 ^ 53)) → Within j (over (A * B) (2 ^ j)) (mul binary64 x y)
times {j} {A} {B} {x} {y} p q t = record { size = mul_size j A B x y p.unit (ltb→lt (over (A * B) (2 ^ j)) (2 ^ 53) t) p.size q.size; unit = p.unit }

-- ---- with a constant k: the bound is worked out from its value
own : (j : ℕ) (k : Float) → T (finite k) → Size j (over (num k * 2 ^ j) (den k)) k
own j nan t = t
own j (inf s) t = t
own j (fin s m e) t = over_le (m * up e * 2 ^ j) (down e) (down_pos e)

pub constant : (j : ℕ) (k : Float) → T (leb j 1074) → T (finite k) → Within j (over (num k * 2 ^ j) (den k)) k
constant j k u t = record { size = own j k t; unit = leb→le j 1074 u }

scale_size : (j A : ℕ) (k x : Float) → T (finite k) → j ≤ 1074 → over (A * num k) (den k) < 2 ^ 53 → Size j A x → Size j (over (A * num k) (den k)) (mul binary64 k x)
unfolding mul
scale_size j A nan x t u h p = absurd t
scale_size j A (inf s) x t u h p = absurd t
scale_size j A (fin s m e) nan t u h p = absurd p
scale_size j A (fin s m e) (inf v) t u h p = absurd p
scale_size j A (fin s m e) (fin v n d) t u h p =
    let C = over (A * (m * up e)) (down e) in
    round_size j (unlike s v) (m * up e * (n * up d)) (down e * down d) C u (mul-pos (down_pos e) (down_pos d)) h
    (le_trans (le_of_eq (mul_assoc (m * up e) (n * up d) (2 ^ j) ∙ mul_comm (m * up e) (n * up d * 2 ^ j)))
    (le_trans (mul-le-mul_right (m * up e) p)
    (le_trans (le_of_eq (mul_right_comm A (down d) (m * up e)))
    (le_trans (mul-le-mul_right (down d) (over_le (A * (m * up e)) (down e) (down_pos e))) (le_of_eq (mul_assoc C (down e) (down d)))))))

pub scaled : {j A : ℕ} (k : Float) {x : Float} → T (finite k) → Within j A x → T (ltb (over (A * num k) (den k)) (2 ^ 53)) → Within j (over (A * num k) (den k)) (mul binary64 k x)
scaled {j} {A} k {x} f p t = record { size = scale_size j A k x f p.unit (ltb→lt (over (A * num k) (den k)) (2 ^ 53) t) p.size; unit = p.unit }

divide_size : (j A : ℕ) (x k : Float) → T (finite k) → 0 < num k → j ≤ 1074 → over (A * den k) (num k) < 2 ^ 53 → Size j A x → Size j (over (A * den k) (num k)) (div binary64 x k)
unfolding div
divide_size j A x nan t z u h p = absurd t
divide_size j A x (inf s) t z u h p = absurd t
divide_size j A nan (fin s m e) t z u h p = absurd p
divide_size j A (inf v) (fin s m e) t z u h p = absurd p
divide_size j A (fin v n d) (fin s zero e) t z u h p = absurd (lt_irrefl 0 (subst (λ (k : ℕ). 0 < k) (zero-mul (up e)) z))
divide_size j A (fin v n d) (fin s (suc m) e) t z u h p =
    let C = over (A * down e) (suc m * up e) in
    rw (eqb-suc-zero m)
    (round_size j (unlike v s) (n * up d * down e) (suc m * up e * down d) C u (mul-pos z (down_pos d)) h
    (le_trans (le_of_eq (mul_right_comm (n * up d) (down e) (2 ^ j)))
    (le_trans (mul-le-mul_right (down e) p)
    (le_trans (le_of_eq (mul_right_comm A (down d) (down e)))
    (le_trans (mul-le-mul_right (down d) (over_le (A * down e) (suc m * up e) z)) (le_of_eq (mul_assoc C (suc m * up e) (down d))))))))

pub divided : {j A : ℕ} (k : Float) {x : Float} → T (finite k) → T (ltb 0 (num k)) → Within j A x → T (ltb (over (A * den k) (num k)) (2 ^ 53)) → Within j (over (A * den k) (num k)) (div binary64 x k)
divided {j} {A} k {x} f z p t = record { size = divide_size j A x k f (ltb→lt 0 (num k) z) p.unit (ltb→lt (over (A * den k) (num k)) (2 ^ 53) t) p.size; unit = p.unit }

-- ---- other ways in and out
-- either of two
pub either : {j B : ℕ} {x y : Float} (b : Bool) → Within j B x → Within j B y → Within j B (cond b x y)
either true p q = p
either false p q = q

-- either of two, each where the test says so
pub either_by : {j B : ℕ} {x y : Float} (b : Bool) → (b ≡ true → Within j B x) → (b ≡ false → Within j B y) → Within j B (cond b x y)
either_by true p q = p refl
either_by false p q = q refl

-- a whole number `as f64`
pub integer : (j B : ℕ) (z : ℤ) → nat_abs z * 2 ^ j ≤ B → j ≤ 1074 → B < 2 ^ 53 → Within j B (of_int binary64 z)
unfolding of_int
integer j B (pos n) h u k = record { size = round_size j false n 1 B u (lit< tt) k (le_trans h (le_of_eq (sym (mul-one B)))); unit = u }
integer j B (negsuc n) h u k = record { size = round_size j true (suc n) 1 B u (lit< tt) k (le_trans h (le_of_eq (sym (mul-one B)))); unit = u }

-- what lies from -k to k
clamp_size : (j B : ℕ) (k x : Float) → T (positive k) → num k * 2 ^ j ≤ B * den k → T (le (neg k) x) → T (le x k) → Size j B x
unfolding le neg
clamp_size j B nan x p b l h = absurd p
clamp_size j B (inf s) x p b l h = absurd p
clamp_size j B (fin true n d) x p b l h = absurd p
clamp_size j B (fin false n d) nan p b l h = absurd l
clamp_size j B (fin false n d) (inf true) p b l h = absurd l
clamp_size j B (fin false n d) (inf false) p b l h = absurd h
clamp_size j B (fin false n d) (fin false m e) p b l h = cancel (m * up e) (n * up d) (down e) (down d) B (2 ^ j) (down_pos d) b (up_to (m * up e * down d) (n * up d * down e) h)
clamp_size j B (fin false n d) (fin true m e) p b l h = cancel (m * up e) (n * up d) (down e) (down d) B (2 ^ j) (down_pos d) b (down_to (n * up d * down e) (m * up e * down d) l)

pub clamped : (j B : ℕ) (k : Float) {x : Float} → T (le (neg k) x) → T (le x k) → T (leb j 1074 && (positive k && leb (num k * 2 ^ j) (B * den k))) → Within j B x
clamped j B k {x} l h t =
    let c = leb (num k * 2 ^ j) (B * den k) in
    let v = and_r (leb j 1074) (positive k && c) t in
    record { size = clamp_size j B k x (and_l (positive k) c v) (leb→le (num k * 2 ^ j) (B * den k) (and_r (positive k) c v)) l h; unit = leb→le j 1074 (and_l (leb j 1074) (positive k && c) t) }

-- and back: what is within lies from -k to k
pub or_l : (a b : Bool) → T a → T (a || b)
or_l true b t = tt
or_l false b t = absurd t

pub or_r : (a b : Bool) → T b → T (a || b)
or_r true b t = tt
or_r false b t = t

same : (a b : ℕ) → a ≡ b → T (eqb a b && true)
same a b e = and_i (eqb a b) true (eq→eqb e) tt

pub to_le : (a b : ℕ) → a ≤ b → T (ltb a b || (eqb a b && true))
to_le a b h = elim (eq-or-lt_of_le h) [ inl e ↦ or_r (ltb a b) (eqb a b && true) (same a b e) | inr l ↦ or_l (ltb a b) (eqb a b && true) (lt→ltb a b l) ]

pub to_ge : (a b : ℕ) → b ≤ a → T (ltb b a || (eqb a b && true))
to_ge a b h = elim (eq-or-lt_of_le h) [ inl e ↦ or_r (ltb b a) (eqb a b && true) (same a b (sym e)) | inr l ↦ or_l (ltb b a) (eqb a b && true) (lt→ltb b a l) ]

-- m / e ≤ B / u and B / u ≤ n / d
join : (m e n d B u : ℕ) → 0 < u → m * u ≤ B * e → B * d ≤ n * u → m * d ≤ n * e
join m e n d B u U h k =
    le_of_mul-le-mul_right
    (le_trans (le_of_eq (mul_right_comm m d u)) (le_trans (mul-le-mul_right d h) (le_trans (le_of_eq (mul_right_comm B e d)) (le_trans (mul-le-mul_right e k) (le_of_eq (mul_right_comm n u e))))))
    U

inside_size : (j B : ℕ) (k x : Float) → T (positive k) → B * den k ≤ num k * 2 ^ j → Size j B x → T (le (neg k) x && le x k)
unfolding le neg
inside_size j B nan x p b h = absurd p
inside_size j B (inf s) x p b h = absurd p
inside_size j B (fin true n d) x p b h = absurd p
inside_size j B (fin false n d) nan p b h = absurd h
inside_size j B (fin false n d) (inf s) p b h = absurd h
inside_size j B (fin false n d) (fin s m e) p b h =
    go s (m * up e * down d) (n * up d * down e) (mul-pos (mul-pos (ltb→lt 0 n p) (up_pos d)) (down_pos e)) (join (m * up e) (down e) (n * up d) (down d) B (2 ^ j) (pow_pos j) h b)
  where
    go : (s : Bool) (a c : ℕ) → 0 < c → a ≤ c → T ((below true c s a || level true c s a) && (below s a false c || level s a false c))
    go false a c C h = and_i (below true c false a || level true c false a) (below false a false c || level false a false c) (or_l (ltb 0 (c + a)) (level true c false a) (lt→ltb 0 (c + a) (omega arith))) (to_le a c h)
    go true a c C h = and_i (below true c true a || level true c true a) (below true a false c || level true a false c) (to_ge c a h) (or_l (ltb 0 (a + c)) (level true a false c) (lt→ltb 0 (a + c) (omega arith)))

pub inside : {j B : ℕ} {x : Float} (k : Float) → Within j B x → T (positive k && leb (B * den k) (num k * 2 ^ j)) → T (le (neg k) x && le x k)
inside {j} {B} {x} k p t = inside_size j B k x (and_l (positive k) (leb (B * den k) (num k * 2 ^ j)) t) (leb→le (B * den k) (num k * 2 ^ j) (and_r (positive k) (leb (B * den k) (num k * 2 ^ j)) t)) p.size

pub is_finite : {j B : ℕ} {x : Float} → Within j B x → T (finite x)
is_finite {j} {B} {x} p = go x p.size
  where
    go : (x : Float) → Size j B x → T (finite x)
    go nan h = h
    go (inf s) h = h
    go (fin s m e) h = tt

-- ---- a formula, its value and its bound, so that one computed test bounds the whole of it
-- `got` is what is known already. `by k a` is a product with a constant k on the left, with a closer bound than that of `◌⊠◌`; a divisor is a constant.
pub data Formula (j : ℕ) : Type 0 where
  lit : Float → Formula j
  got : {B : ℕ} {x : Float} → Within j B x → Formula j
  ◌⊞◌ ◌⊟◌ ◌⊠◌ : Formula j → Formula j → Formula j
  by : Float → Formula j → Formula j
  ◌⧄◌ : Formula j → Float → Formula j

infixl 65 ◌⊞◌
infixl 65 ◌⊟◌
infixl 70 ◌⊠◌
infixl 70 ◌⧄◌
abbrev pub value : {j : ℕ} → Formula j → Float
value (lit k) = k
value (got {B} {x} p) = x
value (a ⊞ b) = add binary64 (value a) (value b)
value (a ⊟ b) = sub binary64 (value a) (value b)
value (a ⊠ b) = mul binary64 (value a) (value b)
value (by k a) = mul binary64 k (value a)
value (a ⧄ k) = div binary64 (value a) k

abbrev pub bound : {j : ℕ} → Formula j → ℕ
bound {j} (lit k) = over (num k * 2 ^ j) (den k)
bound (got {B} {x} p) = B
bound (a ⊞ b) = bound a + bound b
bound (a ⊟ b) = bound a + bound b
bound {j} (a ⊠ b) = over (bound a * bound b) (2 ^ j)
bound (by k a) = over (bound a * num k) (den k)
bound (a ⧄ k) = over (bound a * den k) (num k)

-- whether all constants are numbers, no divisor is zero and every bound is small enough
abbrev pub good : {j : ℕ} → Formula j → Bool
good {j} (lit k) = leb j 1074 && finite k
good (got {B} {x} p) = true
good (a ⊞ b) = good a && (good b && ltb (bound a + bound b) (2 ^ 53))
good (a ⊟ b) = good a && (good b && ltb (bound a + bound b) (2 ^ 53))
good {j} (a ⊠ b) = good a && (good b && ltb (over (bound a * bound b) (2 ^ j)) (2 ^ 53))
good (by k a) = finite k && (good a && ltb (over (bound a * num k) (den k)) (2 ^ 53))
good (a ⧄ k) = finite k && (ltb 0 (num k) && (good a && ltb (over (bound a * den k) (num k)) (2 ^ 53)))

pub sound : {j : ℕ} (a : Formula j) → T (good a) → Within j (bound a) (value a)
sound {j} (lit k) t = constant j k (and_l (leb j 1074) (finite k) t) (and_r (leb j 1074) (finite k) t)
sound (got {B} {x} p) t = p
sound (a ⊞ b) t =
    let c = ltb (bound a + bound b) (2 ^ 53) in
    let u = and_r (good a) (good b && c) t in
    plus (sound a (and_l (good a) (good b && c) t)) (sound b (and_l (good b) c u)) (and_r (good b) c u)
sound (a ⊟ b) t =
    let c = ltb (bound a + bound b) (2 ^ 53) in
    let u = and_r (good a) (good b && c) t in
    less (sound a (and_l (good a) (good b && c) t)) (sound b (and_l (good b) c u)) (and_r (good b) c u)
sound {j} (a ⊠ b) t =
    let c = ltb (over (bound a * bound b) (2 ^ j)) (2 ^ 53) in
    let u = and_r (good a) (good b && c) t in
    times (sound a (and_l (good a) (good b && c) t)) (sound b (and_l (good b) c u)) (and_r (good b) c u)
sound (by k a) t =
    let c = ltb (over (bound a * num k) (den k)) (2 ^ 53) in
    let u = and_r (finite k) (good a && c) t in
    scaled k (and_l (finite k) (good a && c) t) (sound a (and_l (good a) c u)) (and_r (good a) c u)
sound (a ⧄ k) t =
    let c = ltb (over (bound a * den k) (num k)) (2 ^ 53) in
    let u = and_r (finite k) (ltb 0 (num k) && (good a && c)) t in
    let v = and_r (ltb 0 (num k)) (good a && c) u in
    divided k (and_l (finite k) (ltb 0 (num k) && (good a && c)) t) (and_l (ltb 0 (num k)) (good a && c) u) (sound a (and_l (good a) c v)) (and_r (good a) c v)

-- the same with a rounder bound
pub within : {j : ℕ} (B : ℕ) (a : Formula j) → T (good a && leb (bound a) B) → Within j B (value a)
within B a t = widen B (and_r (good a) (leb (bound a) B) t) (sound a (and_l (good a) (leb (bound a) B) t))

-- Numbers from 0 to K, and norm360 of a number: one from 0 to 360. Assumes nothing.
use mathlib.Core.Path.{◌≡◌, refl}
use mathlib.Core.Bool.{Bool, true, false, cond}
use mathlib.Core.Logic.{◌⊎◌, inl, inr}
use Prim.Native.Nat.{ℕ, ◌+◌, ◌-◌, ◌*◌, ◌%◌, ◌^◌, ◌≤◌, ◌<◌, zero-le}
use native.Mathlib.Nat.{mod-lt, le_trans, le_of_eq, mul-one}
use native.Mathlib.Omega.{arith}
use borrow.Author.Tests.{le-ltb, ltb-false}
use lib.Dec.{T, ltb, eqb, eqb→eq, lit<}
use lib.IntN.{ℤ}
use lib.Ieee.{Float, nan, inf, fin, binary64, up, down, lt, le, neg, add, sum, rem, round}
use lib.Ieee.Order.{round_mono}
use lib.Ieee.Fits.{down_pos, and_l}
use Rattle.paper.specs.Floats.{◌⊕◌, near, dec}
use Rattle.paper.proofs.Within.{Within, Size, round_size, round_neg}
use Rattle.sky.specs.Angles.{norm360}
use Rattle.sky.proofs.Orders.{le_not_above}

-- a number from 0 (of either sign) to K
pub record Upto (K : ℕ) (z : Float) : Type 0 where
  pub s : Bool
  pub m : ℕ
  pub e : ℤ
  pub is : z ≡ fin s m e
  pub sign : (s ≡ false) ⊎ (m * up e ≡ 0)
  pub top : m * up e ≤ K * down e

upto : (K : ℕ) (z : Float) → T (le (dec 0 0) z) → Size 0 K z → Upto K z
unfolding le near
upto K nan h k = absurd k
upto K (inf s) h k = absurd k
upto K (fin false m e) h k = record { s = false; m = m; e = e; is = refl; sign = inl refl; top = omega arith }
upto K (fin true m e) h k =
    let p = eqb→eq (0 * down e) (m * up e * 1) (and_l (eqb (0 * down e) (m * up e * 1)) (eqb (0 * down e) 0) h) in
    record { s = true; m = m; e = e; is = refl; sign = inr (omega arith); top = omega arith }

-- a rounded fraction from 0 on
from_zero : (a c : ℕ) → 0 < c → T (le (dec 0 0) (round binary64 false a c))
unfolding near
from_zero a c h = round_mono binary64 0 1 a c (lit< tt) h (omega arith)

-- a rounded fraction from 0 to K
pub fraction : (K a c : ℕ) → K < 2 ^ 53 → 0 < c → a ≤ K * c → Upto K (round binary64 false a c)
fraction K a c b h k =
    upto K (round binary64 false a c) (from_zero a c h) (round_size 0 false a c K zero-le h b (le_trans (le_of_eq (mul-one a)) k))

degrees : (a c : ℕ) → 0 < c → a ≤ 360 * c → Upto 360 (round binary64 false a c)
degrees a c h k = fraction 360 a c (lit< tt) h k

-- ---- norm360
-- -z and a turn more, where z is a fraction from 0 to 360
turn_back : (m : ℕ) (e : ℤ) (b : Bool) → ltb (m * up e * 1) (360 * down e) ≡ b → m * up e ≤ 360 * down e → Upto 360 (fin true m e ⊕ dec 360 0)
unfolding near add sum
turn_back m e true h k = let d = down_pos e in simp h (degrees (360 * down e - m * up e * 1) (down e * 1) (omega arith) (omega arith))
turn_back m e false h k =
    let d = down_pos e in
    let p = ltb-false (m * up e * 1) (360 * down e) h in
    simp (h, le-ltb (360 * down e) (m * up e * 1) (omega arith)) (degrees (m * up e * 1 - 360 * down e) (down e * 1) (omega arith) (omega arith))

abbrev normed : Float → Float
normed r = cond (lt r (dec 0 0)) (r ⊕ dec 360 0) r

nought : (m : ℕ) (e : ℤ) → lt (fin true m e) (dec 0 0) ≡ false → m * up e ≡ 0
unfolding lt near
nought m e h = let p = ltb-false 0 (m * up e * 1 + 0 * down e) h in omega arith

not_below : (m : ℕ) (e : ℤ) → lt (fin false m e) (dec 0 0) ≡ false
unfolding lt near
not_below m e = le-ltb (m * up e * 1) (0 * down e) (omega arith)

back_or_not : (m : ℕ) (e : ℤ) (b : Bool) → lt (fin true m e) (dec 0 0) ≡ b → m * up e ≤ 360 * down e → Upto 360 (normed (fin true m e))
back_or_not m e true h k = simp h (turn_back m e (ltb (m * up e * 1) (360 * down e)) refl k)
back_or_not m e false h k = simp h (record { s = true; m = m; e = e; is = refl; sign = inr (nought m e h); top = k })

normed_neg : (s : Bool) (m : ℕ) (e : ℤ) → (s ≡ false) ⊎ (m * up e ≡ 0) → m * up e ≤ 360 * down e → Upto 360 (normed (neg (fin s m e)))
unfolding neg
normed_neg false m e g k = back_or_not m e (lt (fin true m e) (dec 0 0)) refl k
normed_neg true m e g k = simp (not_below m e) (record { s = false; m = m; e = e; is = refl; sign = inl refl; top = k })

plain : (a c : ℕ) → 0 < c → a ≤ 360 * c → Upto 360 (normed (round binary64 false a c))
plain a c h k = simp (le_not_above (dec 0 0) (round binary64 false a c) (from_zero a c h)) (degrees a c h k)

turned_back : (a c : ℕ) → 0 < c → a ≤ 360 * c → Upto 360 (normed (round binary64 true a c))
turned_back a c h k =
    let u = degrees a c h k in
    rw (round_neg binary64 a c, u.is) (normed_neg u.s u.m u.e u.sign u.top)

norm_fin : (s : Bool) (m : ℕ) (e : ℤ) → Upto 360 (norm360 (fin s m e))
unfolding norm360 rem near lt
norm_fin false m e =
    let d = down_pos e in
    let p = mod-lt (m * up e * 1) {m = 360 * down e} (omega arith) in
    plain (m * up e * 1 % (360 * down e)) (down e * 1) (omega arith) (omega arith)
norm_fin true m e =
    let d = down_pos e in
    let p = mod-lt (m * up e * 1) {m = 360 * down e} (omega arith) in
    turned_back (m * up e * 1 % (360 * down e)) (down e * 1) (omega arith) (omega arith)

pub norm_number : {j B : ℕ} {x : Float} → Within j B x → Upto 360 (norm360 x)
norm_number {j} {B} {x} p = go x p.size
  where
    go : (x : Float) → Size j B x → Upto 360 (norm360 x)
    go nan h = absurd h
    go (inf s) h = absurd h
    go (fin s m e) h = norm_fin s m e

pub upto_within : {K : ℕ} {x : Float} → Upto K x → Within 0 K x
upto_within u = record { size = rw u.is (le_trans (le_of_eq (mul-one (u.m * up u.e))) u.top); unit = zero-le }

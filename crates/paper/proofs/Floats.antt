-- Sums of floats above zero: what they are, that they grow with a summand, and how a whole part is cut. Assumes nothing.
use mathlib.Core.Path.{◌≡◌, refl, sym, subst}
use Prim.Native.Nat.{ℕ, ◌+◌, ◌-◌, ◌*◌, ◌/◌, ◌^◌, ◌≤◌, ◌<◌, min}
use native.Mathlib.Nat.{le_trans, le_of_eq, mul-pos, mul-mul-mul_comm, add-mul, mul-le-mul_right, add-le-add, div-lt_iff_lt-mul}
use native.Mathlib.Omega.{arith}
use mathlib.Core.Bool.{true, false}
use lib.IntN.{pos}
use lib.Dec.{T, lt→ltb}
use lib.Ieee.{Float, nan, inf, fin, Format, up, down, round, add, le, lt, to_unsigned}
use lib.Ieee.Fits.{down_pos}
use lib.Ieee.Nearest.{div_mono}
use lib.Ieee.Order.{round_mono}
use lib.Ieee.Positive.{num, den, den_pos, positive, le→cross}
use Rattle.paper.specs.Floats.{floor_of}

pub add_is : (f : Format) (x y : Float) → T (positive x) → T (positive y) → add f x y ≡ round f false (num x * den y + num y * den x) (den x * den y)
unfolding add
add_is f nan y p q = absurd p
add_is f (inf s) y p q = absurd p
add_is f (fin true m e) y p q = absurd p
add_is f (fin false m e) nan p q = absurd q
add_is f (fin false m e) (inf t) p q = absurd q
add_is f (fin false m e) (fin true n d) p q = absurd q
add_is f (fin false m e) (fin false n d) p q = refl

-- X / p ≤ Z / r, so X / p + Y / q ≤ Z / r + Y / q
grow : (X p Z r Y q : ℕ) → X * r ≤ Z * p → (X * q + Y * p) * (r * q) ≤ (Z * q + Y * r) * (p * q)
grow X p Z r Y q h =
    let u : X * q * (r * q) ≤ Z * q * (p * q) =
    le_trans (le_of_eq (mul-mul-mul_comm X q r q)) (le_trans (mul-le-mul_right (q * q) h) (le_of_eq (mul-mul-mul_comm Z p q q))) in
    let v : Y * p * (r * q) ≡ Y * r * (p * q) = mul-mul-mul_comm Y p r q in
    le_trans (le_of_eq (add-mul (X * q) (Y * p) (r * q)))
    (le_trans (add-le-add u (le_of_eq v)) (le_of_eq (sym (add-mul (Z * q) (Y * r) (p * q)))))

pub add_mono : (f : Format) (x x' y : Float) → T (positive x) → T (positive x') → T (positive y) → T (le x x') → T (le (add f x y) (add f x' y))
add_mono f x x' y p p' q h =
    subst (λ (z : Float). T (le z (add f x' y))) (sym (add_is f x y p q))
    (subst (λ (z : Float). T (le (round f false (num x * den y + num y * den x) (den x * den y)) z)) (sym (add_is f x' y p' q))
    (round_mono f (num x * den y + num y * den x) (den x * den y) (num x' * den y + num y * den x') (den x' * den y) (mul-pos (den_pos x) (den_pos y)) (mul-pos (den_pos x') (den_pos y))
    (grow (num x) (den x) (num x') (den x') (num y) (den y) (le→cross x x' p p' h))))

-- ---- the whole part
pub floor_is : (x : Float) → T (positive x) → floor_of x ≡ num x / den x
unfolding floor_of
floor_is nan p = absurd p
floor_is (inf s) p = absurd p
floor_is (fin s m e) p = refl

pub floor_mono : (x y : Float) → T (positive x) → T (positive y) → T (le x y) → floor_of x ≤ floor_of y
floor_mono x y p q h = rw (floor_is x p, floor_is y q) (div_mono (num x) (den x) (num y) (den y) (den_pos x) (den_pos y) (le→cross x y p q h))

pub above_minus_one : (x : Float) → T (positive x) → T (lt (fin true 1 (pos 0)) x)
unfolding lt
above_minus_one nan p = absurd p
above_minus_one (inf s) p = absurd p
above_minus_one (fin true m e) p = absurd p
above_minus_one (fin false m e) p = let d = down_pos e in lt→ltb 0 (1 * 1 * down e + m * up e * 1) (omega arith)

pub below_word : (x : Float) → T (positive x) → floor_of x < 2 ^ 64 → T (lt x (fin false 1 (pos 64)))
unfolding lt floor_of
below_word nan p h = absurd p
below_word (inf s) p h = absurd p
below_word (fin true m e) p h = absurd p
below_word (fin false m e) p h = let k = (div-lt_iff_lt-mul (down_pos e)).0 h in lt→ltb (m * up e * 1) (1 * 2 ^ 64 * down e) (omega arith)

capped : (a b : ℕ) → a ≤ b → min a b ≡ a
capped a b h = omega arith

pub cut : (x : Float) → T (positive x) → floor_of x < 2 ^ 64 → to_unsigned 64 x ≡ floor_of x
unfolding to_unsigned floor_of
cut nan p h = absurd p
cut (inf s) p h = absurd p
cut (fin true m e) p h = absurd p
cut (fin false m e) p h = capped (m * up e / down e) (2 ^ 64 - 1) (omega arith)

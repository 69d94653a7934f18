-- The longitudes of sun and moon and the elongation, where they are served: not NaN, not infinite, at least 0.0 and at most 360.0. Assumes nothing.
use mathlib.Core.Path.{◌≡◌, subst}
use mathlib.Core.Bool.{Bool, true, false, not}
use mathlib.Core.Logic.{◌⊎◌, inl, inr}
use Prim.Native.Nat.{ℕ, ◌+◌, ◌*◌, ◌≤◌}
use native.Mathlib.Omega.{arith}
use borrow.Author.Tests.{eq-eqb}
use lib.Dec.{T, ltb, lt→ltb}
use lib.IntN.{ℤ}
use lib.Ieee.{Float, fin, up, down, is_nan, level, le}
use lib.Ieee.Fits.{down_pos}
use lib.Ieee.Scale.{finite}
use Rattle.paper.specs.Floats.{near, dec}
use Rattle.paper.proofs.Within.{or_l, to_le}
use Rattle.gregorian.specs.Instants.{instant}
use Rattle.sky.specs.Time.{tt_day, julian_centuries}
use Rattle.sky.specs.Sun.{sun_longitude}
use Rattle.sky.specs.Moon.{moon_longitude}
use Rattle.sky.specs.Tithi.{elongation_of}
use Rattle.sky.proofs.Norms.{Upto}
use Rattle.sky.proofs.Numbers.{day_between, centuries_number, sun_upto, moon_upto, elongation_number}

low : (s : Bool) (m : ℕ) (e : ℤ) → (s ≡ false) ⊎ (m * up e ≡ 0) → T (le (dec 0 0) (fin s m e))
unfolding le near
low false m e g = to_le (0 * down e) (m * up e * 1) (omega arith)
low true m e (inl q) = absurd (subst T q tt)
low true m e (inr q) =
    let a : 0 * down e ≡ m * up e * 1 = omega arith in
    let b : 0 * down e ≡ 0 = omega arith in
    rw (eq-eqb (0 * down e) (m * up e * 1) a, eq-eqb (0 * down e) 0 b) tt

high : (s : Bool) (m : ℕ) (e : ℤ) → m * up e ≤ 360 * down e → T (le (fin s m e) (dec 360 0))
unfolding le near
high false m e h = to_le (m * up e * 1) (360 * down e) (omega arith)
high true m e h = let d = down_pos e in or_l (ltb 0 (m * up e * 1 + 360 * down e)) (level true (m * up e * 1) false (360 * down e)) (lt→ltb 0 (m * up e * 1 + 360 * down e) (omega arith))

pub record Degrees (x : Float) : Type 0 where
  pub is_finite : T (finite x)
  pub not_nan : T (not (is_nan x))
  pub from_0 : T (le (dec 0 0) x)
  pub to_360 : T (le x (dec 360 0))

finite_degrees : (s : Bool) (m : ℕ) (e : ℤ) → (s ≡ false) ⊎ (m * up e ≡ 0) → m * up e ≤ 360 * down e → Degrees (fin s m e)
unfolding is_nan
finite_degrees s m e g h = record { is_finite = tt; not_nan = tt; from_0 = low s m e g; to_360 = high s m e h }

degrees : {x : Float} → Upto 360 x → Degrees x
degrees u = rw u.is (finite_degrees u.s u.m u.e u.sign u.top)

pub sun_degrees : (tt : Float) → T (tt_day tt) → Degrees (sun_longitude (julian_centuries tt))
sun_degrees tt h = degrees (sun_upto (centuries_number (day_between tt h)))

pub moon_degrees : (tt : Float) → T (tt_day tt) → Degrees (moon_longitude (julian_centuries tt))
moon_degrees tt h = degrees (moon_upto (centuries_number (day_between tt h)))

pub elongation_degrees : (ut : Float) → T (instant ut) → Degrees (elongation_of ut)
elongation_degrees ut h = degrees (elongation_number ut h)

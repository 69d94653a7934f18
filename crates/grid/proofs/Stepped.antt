-- A month stepped: which month a count of months leads to, and what each answer stands for. Assumes nothing.
use Rattle.std.specs.Prelude.{Err, Ok}
use Prim.Native.Nat.{ℕ, suc, ◌+◌, ◌-◌, ◌*◌, ◌/◌, ◌%◌, ◌≤◌, ◌<◌}
use mathlib.Core.Path.{◌≡◌, refl, ap}
use mathlib.Core.Bool.{true, false, and-false}
use native.Mathlib.Omega.{arith}
use borrow.Author.Tests.{ltb-true, lt-ltb, le-ltb, le-leb, lt-leb}
use lib.IntN.{ℤ, pos, negsuc, ◌+ℤ◌, ◌*ℤ◌}
use lib.Signed.{lt_z}
use Rattle.paper.specs.declared.Refusal.TheVariants.{BadTable, OffTable}
use Rattle.conversion.specs.Calendar.{Calendar}
use Rattle.grid.specs.Step.{absolute, whole_years, months_left, month_at, step_month}

-- the years and the months left over are the whole count
pub counted_whole : (z : ℤ) → whole_years z *ℤ pos 12 +ℤ pos (months_left z) ≡ z
unfolding whole_years months_left
counted_whole (pos a) = ap pos (omega arith)
counted_whole (negsuc a) =
    let e : suc (a / 12) * 12 ≡ suc (a / 12 * 12 + 11) = omega arith in
    let h : 11 - a % 12 < suc (a / 12 * 12 + 11) = omega arith in
    let k : suc (a / 12 * 12 + 11) - suc (11 - a % 12) ≡ a = omega arith in
    rw e (simp (lt-ltb _ _ h) (ap negsuc k))

pub left_below : (z : ℤ) → months_left z < 12
unfolding months_left
left_below (pos a) = omega arith
left_below (negsuc a) = omega arith

module _ (first years : ℕ) where
  pub before_zero : (z : ℤ) → lt_z z (pos 0) ≡ true → month_at first years z ≡ Err OffTable
  unfolding month_at whole_years
  before_zero (pos n) e = absurd (omega (arith, ltb-true n 0 e))
  before_zero (negsuc n) e = refl

  pub too_early : (n : ℕ) → n / 12 < first → month_at first years (pos n) ≡ Err OffTable
  unfolding month_at whole_years
  too_early n h = simp (lt-leb first (n / 12) h)

  pub too_late : (n : ℕ) → first + years ≤ n / 12 → month_at first years (pos n) ≡ Err OffTable
  unfolding month_at whole_years
  too_late n h = simp (le-ltb (n / 12) (first + years) h, and-false)

  pub in_time : (n : ℕ) → first ≤ n / 12 → n / 12 < first + years → month_at first years (pos n) ≡ Ok (record { year = n / 12; month = n % 12 + 1 })
  unfolding month_at whole_years months_left
  in_time n h k = simp (le-leb first (n / 12) h, lt-ltb (n / 12) (first + years) k)

module _ (c : Calendar) (y m : ℕ) (s : ℤ) where
  pub step_bad : c.good ≡ false → step_month c y m s ≡ Err BadTable
  unfolding step_month
  step_bad e = rw e

  pub step_good : c.good ≡ true → step_month c y m s ≡ month_at c.first c.years (absolute y m s)
  unfolding step_month
  step_good e = rw e

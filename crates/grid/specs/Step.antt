-- A month stepped by a number of months: the Rust's sum, worked exactly, over any calendar. Assumes nothing.
use Rattle.std.specs.Prelude.{ℕ, ◌+◌, ◌-◌, ◌*◌, ◌/◌, ◌%◌, Bool, ◌&&◌, ℤ, pos, negsuc, nat_abs, ◌+ℤ◌, ◌-ℤ◌, Ok}
use Rattle.std.specs.Int.Signed.{le_z, lt_z}
use Rattle.paper.specs.declared.Refusal.TheVariants.{BadTable, OffTable}
use Rattle.paper.specs.Answers.{Answer, given}
use Rattle.conversion.specs.Calendar.{Calendar}
use Rattle.grid.specs.declared.BsMonth.{BsMonth}

-- the months from the beginning of year 0 to a month, and the step
unfoldable pub absolute : ℕ → ℕ → ℤ → ℤ
absolute y m s = pos (y * 12) +ℤ (pos m -ℤ pos 1) +ℤ s

-- the year in which so many months end: a twelfth, rounded down
unfoldable pub whole_years : ℤ → ℤ
whole_years (pos a) = pos (a / 12)
whole_years (negsuc a) = negsuc (a / 12)

-- the months left over, 0 to 11
unfoldable pub months_left : ℤ → ℕ
months_left (pos a) = a % 12
months_left (negsuc a) = 11 - a % 12

-- one of the years from the first on
abbrev pub in_years : ℕ → ℕ → ℤ → Bool
in_years first years z = le_z (pos first) z && lt_z z (pos (first + years))

-- the month at so many months, if its year is one of those: refusal 10
unfoldable pub month_at : ℕ → ℕ → ℤ → Answer BsMonth
unfolding whole_years months_left
month_at first years a =
    given (in_years first years (whole_years a)) OffTable (Ok (record { year = nat_abs (whole_years a); month = months_left a + 1 }))

-- a month stepped: refusals 1, 10
unfoldable pub step_month : Calendar → ℕ → ℕ → ℤ → Answer BsMonth
unfolding absolute month_at
step_month c y m s = given c.good BadTable (month_at c.first c.years (absolute y m s))

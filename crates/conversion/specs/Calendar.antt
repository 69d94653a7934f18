-- What conversion means, over any calendar: a first year, a first day, a number of years and the length of each month of each year.
-- `start` is the Julian day number of the first day. Years, months and days are counted from 0 in `len`, `day_at` and `date_at`.
-- Assumes nothing.
use Rattle.std.specs.Prelude.{ℕ, zero, suc, ◌+◌, ◌-◌, Bool, cond, ◌&&◌, leb, ltb, Ok}
use Rattle.paper.specs.declared.Refusal.{Refusal}
use Rattle.paper.specs.declared.Refusal.TheVariants.{BadTable, NoSuchDate, NoYear, NoMonth, NoDay, Before, After}
use Rattle.paper.specs.Answers.{Answer, given}
use Rattle.paper.specs.Sums.{sum}
use Rattle.gregorian.specs.declared.Date.{Date}
use Rattle.gregorian.specs.Calendar.{is_date, day_number, date_of, Earlier}
use Rattle.conversion.specs.declared.BsDate.{BsDate}

-- whether the table behind it is accepted, the first BS year, the first day, how many years, and the lengths of the months
pub record Calendar : Type 0 where
  pub good : Bool
  pub first : ℕ
  pub start : ℕ
  pub years : ℕ
  pub len : ℕ → ℕ → ℕ

abbrev pub year_len : Calendar → ℕ → ℕ
year_len c i = sum (c.len i) 12

-- the number of the day after the last
abbrev pub end : Calendar → ℕ
end c = c.start + sum (year_len c) c.years

-- ---- from a BS date to a day

abbrev pub year_ok : Calendar → ℕ → Bool
year_ok c y = leb c.first y && ltb y (c.first + c.years)

abbrev pub month_ok : ℕ → Bool
month_ok m = leb 1 m && leb m 12

abbrev pub day_ok : Calendar → ℕ → ℕ → ℕ → Bool
day_ok c y m d = leb 1 d && leb d (c.len (y - c.first) (m - 1))

-- what a question about a month answers: refusals 1, 4, 5, else the value
abbrev pub of_month : {A : Type 0} → Calendar → ℕ → ℕ → Answer A → Answer A
of_month c y m a = given c.good BadTable (given (year_ok c y) NoYear (given (month_ok m) NoMonth a))

-- what a question about a date answers: refusals 1, 4, 5, 6, else the value
abbrev pub of_date : {A : Type 0} → Calendar → ℕ → ℕ → ℕ → A → Answer A
of_date c y m d x = of_month c y m (given (day_ok c y m d) NoDay (Ok x))

-- whether there is such a date: refusals 1, 4, 5, 6, else yes
unfoldable pub valid_bs : Calendar → ℕ → ℕ → ℕ → Answer Unit
valid_bs c y m d = of_date c y m d tt

-- the number of day d of month m of year i
abbrev pub day_at : Calendar → ℕ → ℕ → ℕ → ℕ
day_at c i m d = c.start + sum (year_len c) i + sum (c.len i) m + d

-- the length of a month: refusals 1, 4, 5
unfoldable pub month_len : Calendar → ℕ → ℕ → Answer ℕ
month_len c y m = of_month c y m (Ok (c.len (y - c.first) (m - 1)))

-- the number of a BS date's day: refusals 1, 4, 5, 6
unfoldable pub to_day : Calendar → ℕ → ℕ → ℕ → Answer ℕ
to_day c y m d = of_date c y m d (day_at c (y - c.first) (m - 1) (d - 1))

-- ---- from a day to a BS date

-- the last of 0, 1, .., n - 1 that begins at or before r, where k begins at f 0 + .. + f (k - 1)
unfoldable pub last : (ℕ → ℕ) → ℕ → ℕ → ℕ
last f zero r = 0
last f (suc n) r = cond (leb (sum f n) r) n (last f n r)

-- that day as a BS date
abbrev pub date_at : Calendar → ℕ → ℕ → ℕ → BsDate
date_at c i m d = record { year = c.first + i; month = m + 1; day = d + 1 }

-- the date that lies r days after the first day of year i
abbrev pub date_in_year : Calendar → ℕ → ℕ → BsDate
date_in_year c i r = date_at c i (last (c.len i) 12 r) (r - sum (c.len i) (last (c.len i) 12 r))

-- the date that lies r days after the first day
abbrev pub date_after : Calendar → ℕ → BsDate
date_after c r = date_in_year c (last (year_len c) c.years r) (r - sum (year_len c) (last (year_len c) c.years r))

-- refusal 7 of a day outside: so many days before the first day, or after the last
unfoldable pub outside : Calendar → ℕ → Refusal
outside c n = cond (ltb n c.start) (Before (c.start - n)) (After (n - end c + 1))

-- the date of a day: refusals 1, 7
unfoldable pub from_day : Calendar → ℕ → Answer BsDate
from_day c n = given c.good BadTable (given (leb c.start n && ltb n (end c)) (outside c n) (Ok (date_after c (n - c.start))))

-- ---- Gregorian dates

-- the Gregorian date of a BS date: refusals 1, 4, 5, 6
unfoldable pub to_ad : Calendar → ℕ → ℕ → ℕ → Answer Date
to_ad c y m d = of_date c y m d (date_of (day_at c (y - c.first) (m - 1) (d - 1)))

-- the BS date of a Gregorian date: refusals 1, 3, 7
unfoldable pub from_ad : Calendar → ℕ → ℕ → ℕ → Answer BsDate
from_ad c y m d = given c.good BadTable (given (is_date y m d) NoSuchDate (from_day c (day_number (record { year = y; month = m; day = d }))))

-- ---- the order of BS dates: by the year, then the month, then the day, as that of Gregorian dates

abbrev pub bs : ℕ → ℕ → ℕ → BsDate
bs y m d = record { year = y; month = m; day = d }

abbrev pub numbers : BsDate → Date
numbers t = record { year = t.year; month = t.month; day = t.day }

abbrev pub EarlierBs : BsDate → BsDate → Type 0
EarlierBs s t = Earlier (numbers s) (numbers t)

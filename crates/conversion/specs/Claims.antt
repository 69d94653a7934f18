-- What the theorems on conversion claim, and the words that they claim it in. Assumes nothing.
use Rattle.std.specs.Prelude.{ℕ, ◌+◌, ◌-◌, ◌≤◌, ◌<◌, ◌≡◌, true, false, ◌↔◌, Err, Ok}
use Rattle.paper.specs.declared.Refusal.{Refusal}
use Rattle.paper.specs.declared.Refusal.TheVariants.{BadTable, NoSuchDate, NoYear, NoMonth, NoDay, Before, After}
use Rattle.paper.specs.Answers.{Answer, then}
use Rattle.gregorian.specs.declared.Date.{Date}
use Rattle.gregorian.specs.Calendar.{is_date, day_number, date_of, Earlier}
use Rattle.conversion.specs.declared.BsDate.{BsDate}
use Rattle.conversion.specs.Calendar.{Calendar, bs, EarlierBs, month_len, valid_bs, to_ad, from_ad, outside, end}
use Rattle.conversion.specs.Flat.{date}

-- the year is one of the table, the month one of 1 to 12, the day one of the month
abbrev pub YearIn : Calendar → ℕ → Type 0
YearIn c y = (c.first ≤ y) × (y < c.first + c.years)

abbrev pub MonthIn : ℕ → Type 0
MonthIn m = (1 ≤ m) × (m ≤ 12)

abbrev pub DayIn : Calendar → ℕ → ℕ → ℕ → Type 0
DayIn c y m d = (1 ≤ d) × (d ≤ c.len (y - c.first) (m - 1))

-- a BS date of the table
abbrev pub BsIn : Calendar → ℕ → ℕ → ℕ → Type 0
BsIn c y m d = YearIn c y × (MonthIn m × DayIn c y m d)

-- the first day of the table and the last
abbrev pub first_of : Calendar → Date
first_of c = date_of c.start

abbrev pub last_of : Calendar → Date
last_of c = date_of (end c - 1)

-- a day of the table: a Gregorian date, not earlier than the first day and not later than the last
pub record TableDay (c : Calendar) (x : Date) : Type 0 where
  pub real : is_date x.year x.month x.day ≡ true
  pub from : Earlier x (first_of c) → ⊥
  pub to : Earlier (last_of c) x → ⊥

-- a year after those of a table, which a longer table may add
abbrev pub Added : Calendar → ℕ → Type 0
Added c y = c.first + c.years ≤ y

-- how many days the longer of two tables adds to the shorter
abbrev pub added_days : Calendar → Calendar → ℕ
added_days short long = end long - end short

-- refused exactly if P holds, and then with k
pub record RefusedIf {A : Type 0} (a : Answer A) (k : Refusal) (P : Type 0) : Type 0 where
  pub when : P → a ≡ Err k
  pub only : (j : Refusal) → a ≡ Err j → P

-- ---- ONE TO ONE: `BsIn` is a BS date of the table, a `TableDay` a Gregorian date from the first table day to the last
pub record OneToOne (c : Calendar) : Type 0 where
  -- each BS date of the table has a table day, and each table day a BS date of the table
  pub to : (y m d : ℕ) → BsIn c y m d → (x : Date) × ((to_ad c y m d ≡ Ok x) × TableDay c x)
  pub from : (x : Date) → TableDay c x
      → (t : BsDate) × ((from_ad c x.year x.month x.day ≡ Ok t) × BsIn c t.year t.month t.day)
  -- what is answered leads back
  pub to_from : (y m d : ℕ) (x : Date) → to_ad c y m d ≡ Ok x → from_ad c x.year x.month x.day ≡ Ok (bs y m d)
  pub from_to : (y m d : ℕ) (t : BsDate) → from_ad c y m d ≡ Ok t → to_ad c t.year t.month t.day ≡ Ok (date y m d)
  -- an earlier date has an earlier date
  pub to_order : (s t : BsDate) (a b : Date) → to_ad c s.year s.month s.day ≡ Ok a → to_ad c t.year t.month t.day ≡ Ok b
      → EarlierBs s t ↔ Earlier a b
  pub from_order : (a b : Date) (s t : BsDate) → from_ad c a.year a.month a.day ≡ Ok s
      → from_ad c b.year b.month b.day ≡ Ok t → Earlier a b ↔ EarlierBs s t
  -- all else is refused with its number
  pub no_year : (y m d : ℕ) → (YearIn c y → ⊥) → to_ad c y m d ≡ Err NoYear
  pub no_month : (y m d : ℕ) → YearIn c y → (MonthIn m → ⊥) → to_ad c y m d ≡ Err NoMonth
  pub no_day_law : (y m d : ℕ) → YearIn c y → MonthIn m → (DayIn c y m d → ⊥) → to_ad c y m d ≡ Err NoDay
  pub no_date : (y m d : ℕ) → is_date y m d ≡ false → from_ad c y m d ≡ Err NoSuchDate
  pub out : (y m d : ℕ) → is_date y m d ≡ true → (TableDay c (date y m d) → ⊥) → from_ad c y m d ≡ Err (outside c (day_number (date y m d)))
  -- a date before the first table day is told by how many days, one or more; so is a date after the last
  pub before : (y m d : ℕ) → is_date y m d ≡ true → Earlier (date y m d) (first_of c)
      → (k : ℕ) × ((1 ≤ k) × (day_number (date y m d) + k ≡ day_number (first_of c)) × (from_ad c y m d ≡ Err (Before k)))
  pub after : (y m d : ℕ) → is_date y m d ≡ true → Earlier (last_of c) (date y m d)
      → (k : ℕ) × ((1 ≤ k) × (day_number (last_of c) + k ≡ day_number (date y m d)) × (from_ad c y m d ≡ Err (After k)))
  -- a date is validated exactly if it converts, with the same refusals; and a month has a length exactly if it is one of the table
  pub valid : (y m d : ℕ) → valid_bs c y m d ≡ then (to_ad c y m d) (λ x. Ok tt)
  pub len : (y m : ℕ) → YearIn c y → MonthIn m → month_len c y m ≡ Ok (c.len (y - c.first) (m - 1))
  pub len_no_year : (y m : ℕ) → (YearIn c y → ⊥) → month_len c y m ≡ Err NoYear
  pub len_no_month : (y m : ℕ) → YearIn c y → (MonthIn m → ⊥) → month_len c y m ≡ Err NoMonth

-- a table that is not accepted answers nothing
pub record NoTable (c : Calendar) : Type 0 where
  pub len : (y m : ℕ) → month_len c y m ≡ Err BadTable
  pub valid : (y m d : ℕ) → valid_bs c y m d ≡ Err BadTable
  pub to : (y m d : ℕ) → to_ad c y m d ≡ Err BadTable
  pub from : (y m d : ℕ) → from_ad c y m d ≡ Err BadTable

-- ---- DATES STAY under a longer table
pub record DatesStay (short long : Calendar) : Type 0 where
  -- every question that the shorter answers has the same answer under the longer
  pub len : (y m n : ℕ) → month_len short y m ≡ Ok n → month_len long y m ≡ Ok n
  pub valid : (y m d : ℕ) → valid_bs short y m d ≡ Ok tt → valid_bs long y m d ≡ Ok tt
  pub to : (y m d : ℕ) (x : Date) → to_ad short y m d ≡ Ok x → to_ad long y m d ≡ Ok x
  pub from : (y m d : ℕ) (t : BsDate) → from_ad short y m d ≡ Ok t → from_ad long y m d ≡ Ok t
  -- what the longer answers is refused by the shorter exactly if it lies in an added year
  pub len_added : (y m n : ℕ) → month_len long y m ≡ Ok n → RefusedIf (month_len short y m) NoYear (Added short y)
  pub valid_added : (y m d : ℕ) → valid_bs long y m d ≡ Ok tt → RefusedIf (valid_bs short y m d) NoYear (Added short y)
  pub to_added : (y m d : ℕ) (x : Date) → to_ad long y m d ≡ Ok x → RefusedIf (to_ad short y m d) NoYear (Added short y)
  pub from_added : (y m d : ℕ) (t : BsDate) → from_ad long y m d ≡ Ok t
      → RefusedIf (from_ad short y m d) (outside short (day_number (date y m d))) (Added short t.year)
  -- the days before the first day stay; those after the last become a date of an added year, or are fewer by the days that are added
  pub from_before : (y m d k : ℕ) → from_ad short y m d ≡ Err (Before k) → from_ad long y m d ≡ Err (Before k)
  pub from_reached : (y m d k : ℕ) → from_ad short y m d ≡ Err (After k) → k ≤ added_days short long
      → (t : BsDate) × ((from_ad long y m d ≡ Ok t) × Added short t.year)
  pub from_after : (y m d k : ℕ) → from_ad short y m d ≡ Err (After k) → added_days short long < k
      → from_ad long y m d ≡ Err (After (k - added_days short long))

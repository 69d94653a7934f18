-- The lent year table (docs/RULES.md, What is lent): rows of thirteen numbers, twelve month lengths and their sum. Assumes nothing.
use Rattle.std.specs.Prelude.{ℕ, ◌+◌, ◌-◌, ◌*◌, ◌/◌, Bool, ◌&&◌, List, length, get_or, leb, eqb}
use Rattle.paper.specs.Sums.{sum, all}
use Rattle.gregorian.specs.declared.Date.{Date}
use Rattle.gregorian.specs.Calendar.{is_date, day_number}
use Rattle.conversion.specs.declared.Table.{Table}
use Rattle.conversion.specs.Calendar.{Calendar}

abbrev pub row_count : List ℕ → ℕ
row_count rows = length rows / 13

-- the number in column m of row i
abbrev pub lens : List ℕ → ℕ → ℕ → ℕ
lens rows i m = get_or rows (13 * i + m) 0

-- a month has 29 to 32 days
abbrev pub len_ok : List ℕ → ℕ → ℕ → Bool
len_ok rows i m = leb 29 (lens rows i m) && leb (lens rows i m) 32

-- the thirteenth number is the sum of the twelve
unfoldable pub row_ok : List ℕ → ℕ → Bool
row_ok rows i = all (len_ok rows i) 12 && eqb (lens rows i 12) (sum (lens rows i) 12)

-- the days of the first n rows
abbrev pub row_days : List ℕ → ℕ → ℕ
row_days rows n = sum (λ i. sum (lens rows i) 12) n

abbrev pub first_day : Table → Date
first_day t = record { year = t.year; month = t.month; day = t.day }

abbrev pub date : ℕ → ℕ → ℕ → Date
date y m d = record { year = y; month = m; day = d }

-- a year table is accepted (docs/RULES.md, What is lent): the first year, the length, the number of rows, the rows, the first day and the last
unfoldable pub accepted : Table → List ℕ → Bool
accepted t rows =
    leb 1 t.first_year
    && (leb t.first_year 3000
    && (eqb (length rows) (13 * row_count rows)
    && (leb 1 (row_count rows)
    && (leb (row_count rows) 128
    && (all (row_ok rows) (row_count rows)
    && (is_date t.year t.month t.day
    && (leb (day_number (date 1901 1 1)) (day_number (first_day t))
    && leb (day_number (first_day t) + row_days rows (row_count rows) - 1) (day_number (date 2099 12 31)))))))))

-- the calendar of a lent table
abbrev pub flat : Table → List ℕ → Calendar
flat t rows =
    record { good = accepted t rows; first = t.first_year; start = day_number (first_day t); years = row_count rows; len = lens rows }

-- What the inner functions ask and promise. Assumes nothing.
use Rattle.std.specs.Prelude.{ℕ, zero, suc, ◌+◌, ◌-◌, ◌*◌, ◌/◌, ◌≤◌, ◌<◌, ◌≡◌, Bool, true, false, cond, ◌&&◌, List, length, get_or, leb, eqb, Option, Some, None, Ok}
use Rattle.paper.specs.declared.Refusal.TheVariants.{BadTable}
use Rattle.paper.specs.Answers.{Answer, given}
use Rattle.paper.specs.Sums.{sum, all}
use Rattle.gregorian.specs.Calendar.{is_date, day_number}
use Rattle.conversion.specs.declared.Table.{Table}
use Rattle.conversion.specs.declared.check.Passed.{Passed}
use Rattle.conversion.specs.Calendar.{Calendar}
use Rattle.conversion.specs.Flat.{row_count, lens, row_ok, row_days, first_day, accepted}

-- the calendar of a lent table whose rows are not tested
abbrev pub untested : Table → List ℕ → Calendar
untested t rows =
    record { good = true; first = t.first_year; start = day_number (first_day t); years = row_count rows; len = lens rows }

-- every step-th number, from at
abbrev pub column : List ℕ → ℕ → ℕ → ℕ → ℕ
column rows at step k = get_or rows (at + step * k) 0

-- the count numbers of a column are in the table
pub record Inside (rows : List ℕ) (at step count : ℕ) : Type 0 where
  pub few : count ≤ 128
  pub small : step ≤ 13
  pub inside : (k : ℕ) → k < count → at + step * k < length rows

-- row i is in the table, first is the number of its first day, and the month and the day are in range
pub record InRow (rows : List ℕ) (i first month day : ℕ) : Type 0 where
  pub row : 13 * i + 13 ≤ length rows
  pub early : first ≤ 100000000
  pub month_from : 1 ≤ month
  pub month_to : month ≤ 12
  pub day_from : 1 ≤ day

-- r is the sum of n numbers
pub record Summed (f : ℕ → ℕ) (n r : ℕ) : Type 0 where
  pub whole : r ≡ sum f n
  pub most : r ≤ 65535 * n

-- r lies in place i, s after its beginning; or i is n and s is what is left
pub record FoundAt (f : ℕ → ℕ) (n r i s : ℕ) : Type 0 where
  pub index : i ≤ n
  pub whole : sum f i + s ≡ r
  pub within : i < n → s < f i

-- the days of row i, where it keeps its rules
abbrev pub row_answer : List ℕ → ℕ → Option ℕ
row_answer rows i = cond (row_ok rows i) (Some (sum (lens rows i) 12)) None

-- a pass with one row more, which lies before what is asked for, or not: i rows have so many days
abbrev pub advance : Bool → Passed → ℕ → ℕ → Passed
advance true p i days = record { days = days; row = i; before = days }
advance false p i days = record { days = days; row = p.row; before = p.before }

-- before what is asked for: at most until rows, and at most day days
abbrev pub further_of : Passed → ℕ → ℕ → ℕ → ℕ → Passed
further_of p i days until day = advance (leb i until && leb days day) p i days

-- what a pass over n rows finds
unfoldable pub passed : List ℕ → ℕ → ℕ → ℕ → Passed
passed rows zero until day = record { days = 0; row = 0; before = 0 }
passed rows (suc n) until day = further_of (passed rows n until day) (suc n) (row_days rows (suc n)) until day

-- none where a row breaks a rule
abbrev pub pass_of_rows : List ℕ → ℕ → ℕ → ℕ → Option Passed
pass_of_rows rows n until day = cond (all (row_ok rows) n) (Some (passed rows n until day)) None

-- of i rows, the first `row` lie before row `until` and end at or before `day`, and the next does not
pub record Reached (rows : List ℕ) (i until day row before : ℕ) : Type 0 where
  pub among : row ≤ i
  pub to : row ≤ until
  pub days : before ≡ row_days rows row
  pub day_to : before ≤ day
  pub next : row < i → row < until → day < row_days rows (row + 1)

-- what is asked of a table besides its rows, which have n numbers
pub record Frame (t : Table) (n : ℕ) : Type 0 where
  pub year_from : 1 ≤ t.first_year
  pub year_to : t.first_year ≤ 3000
  pub whole : n ≡ 13 * (n / 13)
  pub some : 1 ≤ n / 13
  pub few : n / 13 ≤ 128
  pub real : is_date t.year t.month t.day ≡ true
  pub day_from : 2415386 ≤ day_number (first_day t)

-- a table keeps these, and its first day is start
pub record Begins (t : Table) (rows : List ℕ) (start : ℕ) : Type 0 where
  pub frame : Frame t (length rows)
  pub first : start ≡ day_number (first_day t)

-- row i is in such a table, and s days fit into sixteen bits
pub record OfRow (t : Table) (rows : List ℕ) (i s : ℕ) : Type 0 where
  pub frame : Frame t (length rows)
  pub row : i < row_count rows
  pub short : s < 65535

-- in a table that begins with day start, the days from start to n end s days after row i begins, if it is accepted
pub record PlacedIn (t : Table) (rows : List ℕ) (start n i s : ℕ) : Type 0 where
  pub begins : Begins t rows start
  pub most : s ≤ n - start
  pub short : i < row_count rows → s < 65535
  pub found : accepted t rows ≡ true → FoundAt (λ k. sum (lens rows k) 12) (row_count rows) (n - start) i s

-- whether a table keeps what is asked besides its rows, which have n numbers
abbrev pub frame_ok : Table → ℕ → Bool
frame_ok t n =
    leb 1 t.first_year
    && leb t.first_year 3000
    && (eqb n (13 * (n / 13)) && leb 1 (n / 13) && leb (n / 13) 128)
    && is_date t.year t.month t.day
    && leb 2415386 (day_number (first_day t))

-- the number of its first day; refused where it does not
abbrev pub frame_answer : Table → ℕ → Answer ℕ
frame_answer t n = given (frame_ok t n) BadTable (Ok (day_number (first_day t)))

-- what a pass over a table finds; refused where the table is not accepted
abbrev pub pass_answer : Table → List ℕ → ℕ → ℕ → Answer Passed
pass_answer t rows until day = given (accepted t rows) BadTable (Ok (passed rows (row_count rows) until day))

-- whether it is
abbrev pub whole_answer : Table → List ℕ → Answer Unit
whole_answer t rows = given (accepted t rows) BadTable (Ok tt)

-- row i begins s days before day r, by the sums that the rows have
pub record Begun (rows : List ℕ) (r i s : ℕ) : Type 0 where
  pub row : i ≤ row_count rows
  pub whole : sum (column rows 12 13) i + s ≡ r

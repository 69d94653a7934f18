-- A month's cells and festivals, over any calendar, any day lists and any reading. Assumes nothing.
use Rattle.std.specs.Prelude.{ℕ, ◌+◌, ◌-◌, Bool, ◌&&◌, List, ◌++◌, leb, length, drop, Err, Ok}
use Rattle.paper.specs.declared.Refusal.TheVariants.{NoSuchDate, NoYear, NoMonth, NoRoom}
use Rattle.paper.specs.Answers.{Answer, given}
use Rattle.gregorian.specs.declared.Date.{Date}
use Rattle.gregorian.specs.Calendar.{date_of, weekday_of}
use Rattle.gregorian.specs.Answers.{real}
use Rattle.conversion.specs.Calendar.{Calendar, bs, year_ok, month_ok, day_at}
use Rattle.rules.specs.declared.lists.Day.{Day}
use Rattle.rules.specs.Lent.{lent}
use Rattle.rules.specs.Festivals.{Pair, numbers}
use Rattle.rules.specs.Resolved.{day_numbered}
use Rattle.panchanga.specs.declared.lunar.Reading.{Reading}
use Rattle.grid.specs.declared.Month.{Month}
use Rattle.festivals.specs.Months.{each}
use Rattle.grid.specs.Cells.{day_cell, weeks, joined}

-- a month whose first day has the number `first`: its day d, counted from 0
abbrev pub day_on : ℕ → ℕ → ℕ → ℕ → Day
day_on y m first d = day_numbered (bs y m (d + 1)) (first + d)

-- the month as cells in whole weeks, and the lists of its days one after the other
pub record Grid : Type 0 where
  pub days : ℕ
  pub first : Date
  pub last : Date
  pub cells : List (List ℕ)
  pub festivals : List Pair

module _ (list : Day → List Pair) (reading : Day → Reading) (today : Date) (y m first : ℕ) where
  abbrev pub list_on : ℕ → List Pair
  list_on d = list (day_on y m first d)

  abbrev pub cell_on : ℕ → List ℕ
  cell_on d = day_cell today (day_on y m first d) (list_on d) (reading (day_on y m first d))

  -- a month of so many days
  unfoldable pub grid_of : ℕ → Grid
  grid_of days =
      record {
        days = days;
        first = date_of first;
        last = date_of (first + (days - 1));
        cells = weeks (weekday_of first) (each cell_on 0 days);
        festivals = joined (each list_on 0 days);
      }

-- what is written of it into the two buffers
abbrev pub cell_numbers : Grid → List ℕ
cell_numbers g = joined g.cells

abbrev pub festival_numbers : Grid → List ℕ
festival_numbers g = numbers g.festivals

-- the month, where each buffer of these lengths is long enough: refusal 9
unfoldable pub fitted : Grid → ℕ → ℕ → Answer Grid
fitted g cellRoom festivalRoom =
    given (leb (length (cell_numbers g)) cellRoom && leb (length (festival_numbers g)) festivalRoom) NoRoom (Ok g)

-- month m of year y: refusals 1, 2, 3 (today), 4, 5, 9
unfoldable pub month_grid : Calendar → Bool → (Day → List Pair) → (Day → Reading) → Date → ℕ → ℕ → ℕ → ℕ → Answer Grid
month_grid c ok list reading today y m cellRoom festivalRoom =
    let first = day_at c (y - c.first) (m - 1) 0 in
    let days = c.len (y - c.first) (m - 1) in
    lent c ok
    (given (real today) NoSuchDate
    (given (year_ok c y) NoYear
    (given (month_ok m) NoMonth (fitted (grid_of list reading today y m first days) cellRoom festivalRoom))))

-- what is answered, and the two lent buffers as they then stand
pub record Shown : Type 0 where
  pub answer : Answer Month
  pub cells : List ℕ
  pub festivals : List ℕ

-- a list of numbers from the front of a buffer; what lies past it stays
abbrev pub over : List ℕ → List ℕ → List ℕ
over vs l = vs ++ drop (length vs) l

-- days, first and last Gregorian date, cells and festivals are answered, and both are written; a refusal changes nothing
unfoldable pub shown : Answer Grid → List ℕ → List ℕ → Shown
shown (Ok g) cells festivals =
    record {
      answer = Ok (record { days = g.days; first = g.first; last = g.last; cells = length g.cells; festivals = length g.festivals });
      cells = over (cell_numbers g) cells;
      festivals = over (festival_numbers g) festivals;
    }
shown (Err k) cells festivals = record { answer = Err k; cells = cells; festivals = festivals }

-- What the inner functions ask and promise. Assumes nothing.
use Rattle.std.specs.Prelude.{ℕ, zero, suc, ◌+◌, ◌-◌, ◌*◌, ◌≤◌, ◌<◌, Bool, false, ◌||◌, List, eqb, length, get_or}
use Rattle.paper.specs.Answers.{then}
use Rattle.gregorian.specs.declared.Date.{Date}
use Rattle.gregorian.specs.Calendar.{date_of, weekday_of}
use Rattle.conversion.specs.declared.Table.{Table}
use Rattle.conversion.specs.Calendar.{Calendar, day_at, month_len}
use Rattle.conversion.specs.Flat.{flat}
use Rattle.rules.specs.declared.lists.Day.{Day}
use Rattle.rules.specs.declared.lists.Years.{Years}
use Rattle.rules.specs.Festivals.{Pair}
use Rattle.rules.specs.Rules.{rules_of}
use Rattle.rules.specs.Resolved.{list_by}
use Rattle.grid.specs.declared.page.Plan.{Plan}
use Rattle.grid.specs.declared.Month.{Month}
use Rattle.grid.specs.Cells.{to_fill}
use Rattle.grid.specs.Month.{Grid, Shown, list_on, cell_on, grid_of, fitted, shown}
use Rattle.grid.specs.Kathmandu.{reading_on, grid_under}

-- a day number from that of 1 January 1900 to that of 31 December 2149
pub record Dated (n : ℕ) : Type 0 where
  pub from : 2415021 ≤ n
  pub to : n < 2506332

-- a month of a table
pub record Planned (p : Plan) : Type 0 where
  pub some : 1 ≤ p.days
  pub few : p.days ≤ 32
  pub from : 2415021 ≤ p.first
  pub to : p.first + p.days < 2506332

-- room for six weeks of cells, and for all lists of a month
pub record Roomy (page lists : List ℕ) : Type 0 where
  pub cells : 504 ≤ length page
  pub festivals : 24576 ≤ length lists

-- one of the k pairs from pair i on has the mark of a holiday
unfoldable pub any_mark : List ℕ → ℕ → ℕ → Bool
any_mark xs i zero = false
any_mark xs i (suc k) = eqb (get_or xs (i * 2 + 1) 0) 1 || any_mark xs (i + 1) k

-- the plan of month m of year y, which has so many days
abbrev pub plan_for : Calendar → Date → ℕ → ℕ → ℕ → Years → Plan
plan_for c today y m days years =
    record { today = today; year = y; month = m; first = day_at c (y - c.first) (m - 1) 0; days = days; years = years }

-- ---- a month from two resolved years

module _ (rules : List ℕ) (p : Plan) where
  abbrev pub list_for : Day → List Pair
  list_for q = list_by (rules_of rules) q p.years

  abbrev pub list_at : ℕ → List Pair
  list_at = list_on list_for reading_on p.today p.year p.month p.first

  abbrev pub cell_at : ℕ → List ℕ
  cell_at = cell_on list_for reading_on p.today p.year p.month p.first

  abbrev pub grid_by : Grid
  grid_by = grid_of list_for reading_on p.today p.year p.month p.first p.days

-- it is written where each buffer is long enough
abbrev pub shown_by : List ℕ → Plan → List ℕ → List ℕ → Shown
shown_by rules p cells festivals = shown (fitted (grid_by rules p) (length cells) (length festivals)) cells festivals

abbrev pub cells_of : Plan → ℕ
cells_of p = weekday_of p.first + p.days + to_fill (weekday_of p.first + p.days)

abbrev pub month_of : Plan → ℕ → ℕ → Month
month_of p cells festivals =
    record { days = p.days; first = date_of p.first; last = date_of (p.first + (p.days - 1)); cells = cells; festivals = festivals }

-- ---- a month of an accepted table, by its length

abbrev pub month_laid : Table → List ℕ → List ℕ → Date → ℕ → ℕ → List ℕ → List ℕ → Shown
month_laid t rows rules today y m cells festivals =
    let c = flat t rows in
    shown (then (month_len c y m) (λ n. fitted (grid_under c rules today y m n) (length cells) (length festivals))) cells festivals

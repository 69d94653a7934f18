-- The month over Kathmandu: its lists by the sky there, its readings by sun and moon. Assumes nothing.
use Rattle.std.specs.Prelude.{ℕ, ◌-◌, List, length}
use Rattle.paper.specs.Answers.{Answer}
use Rattle.gregorian.specs.declared.Date.{Date}
use Rattle.conversion.specs.declared.Table.{Table}
use Rattle.conversion.specs.Calendar.{Calendar, day_at}
use Rattle.conversion.specs.Flat.{flat}
use Rattle.rules.specs.declared.lists.Day.{Day}
use Rattle.rules.specs.Rules.{rules_of, accepted_rules}
use Rattle.rules.specs.Festivals.{Pair}
use Rattle.panchanga.specs.declared.lunar.Reading.{Reading}
use Rattle.panchanga.specs.Noaa as Noaa
use Rattle.panchanga.specs.Reading.{reading_of}
use Rattle.festivals.specs.Kathmandu.{day_list_of}
use Rattle.grid.specs.Month.{Grid, Shown, grid_of, month_grid, shown}

-- the reading of a day
abbrev pub reading_on : Day → Reading
reading_on q = reading_of Noaa.kathmandu q.ad q.number

-- the list of a day by rules
abbrev pub list_under : Calendar → List ℕ → Day → List Pair
list_under c rules q = day_list_of c (rules_of rules) q.bs q.number

-- month m of year y, which has so many days
abbrev pub grid_under : Calendar → List ℕ → Date → ℕ → ℕ → ℕ → Grid
grid_under c rules today y m days = grid_of (list_under c rules) reading_on today y m (day_at c (y - c.first) (m - 1) 0) days

-- the month that is asked for, for two buffers of so many numbers: refusals 1, 2, 3, 4, 5, 9
abbrev pub month_under : Calendar → List ℕ → Date → ℕ → ℕ → ℕ → ℕ → Answer Grid
month_under c rules today y m cellRoom festivalRoom =
    month_grid c (accepted_rules rules) (list_under c rules) reading_on today y m cellRoom festivalRoom

-- what is answered by a lent table and lent rules, and the two lent buffers as they then stand
abbrev pub month_shown : Table → List ℕ → List ℕ → Date → ℕ → ℕ → List ℕ → List ℕ → Shown
month_shown t rows rules today y m cells festivals =
    shown (month_under (flat t rows) rules today y m (length cells) (length festivals)) cells festivals

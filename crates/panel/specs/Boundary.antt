-- How an answer crosses the C boundary: as its number, and as what is written where it was asked for. Assumes nothing.
use Rattle.std.specs.Prelude.{ℕ, Bool, true, false, List, leb, Float, Err, None, Ok, Option, Some}
use Rattle.paper.specs.Answers.{Answer, given}
use Rattle.paper.specs.Refusals.{number, told}
use Rattle.paper.specs.declared.Refusal.{Refusal}
use Rattle.paper.specs.declared.Refusal.TheVariants.{BadRules}
use Rattle.paper.specs.declared.Told.{Told}
use Rattle.paper.specs.declared.Told.TheVariants as T
use Rattle.gregorian.specs.declared.Date.{Date}
use Rattle.conversion.specs.declared.BsDate.{BsDate}
use Rattle.conversion.specs.declared.Table.{Table}
use Rattle.conversion.specs.Calendar.{Calendar}
use Rattle.conversion.specs.Flat.{flat}
use Rattle.panchanga.specs.declared.lunar.Reading.{Reading}
use Rattle.panchanga.specs.Answers.{kala_answer}
use Rattle.rules.specs.Festivals.{Listed}
use Rattle.festivals.specs.Kathmandu.{kala_named}
use Rattle.grid.specs.declared.BsMonth.{BsMonth}
use Rattle.grid.specs.declared.Month.{Month}
use Rattle.grid.specs.Month.{Shown}

-- 0 for an answer, or the number of the refusal
abbrev pub code : {A : Type 0} → Answer A → ℕ
code (Ok x) = 0
code (Err k) = number k

-- 0 and the lent places with the parts of the answer; or the number of the refusal, and the places as they were
abbrev pub gives : {A P : Type 0} → Answer A → (A → P) → P → ℕ × P
gives (Ok x) parts old = (0, parts x)
gives (Err k) parts old = (number k, old)

-- the same of an answer that may be none: a first place says whether there is something, 1, or nothing, 0, which leaves the others
abbrev pub gives_some : {A P : Type 0} → Answer (Option A) → (A → P) → ℕ × P → ℕ × (ℕ × P)
gives_some (Ok (Some x)) parts old = (0, (1, parts x))
gives_some (Ok None) parts old = (0, (0, old.1))
gives_some (Err k) parts old = (number k, old)

-- a day's list: its count, and the lent buffer
abbrev pub gives_list : Listed → ℕ → (ℕ × ℕ) × List ℕ
gives_list l old = (gives l.answer (λ n. n) old, l.buffer)

-- the place for a line: a line that is told goes there, all else leaves it
abbrev pub line_in : Option Told → ℕ → ℕ
line_in (Some (T.Before k)) old = old
line_in (Some (T.After k)) old = old
line_in (Some (T.Line k)) old = k
line_in None old = old

-- the two places for days, before the first day and after the last: days that are told go to their side, with 0 on the other; all else leaves both
abbrev pub days_in : Option Told → ℕ × ℕ → ℕ × ℕ
days_in (Some (T.Before k)) old = (k, 0)
days_in (Some (T.After k)) old = (0, k)
days_in (Some (T.Line k)) old = old
days_in None old = old

-- the number of a refusal, and the place of what it tells, which `tell` fills
abbrev pub number_and : {D : Type 0} → (Option Told → D → D) → Refusal → D → ℕ × D
number_and tell k old = (number k, tell (told k) old)

-- 0 and the parts of the answer; or the number of the refusal, and what it tells. Neither touches the place of the other
abbrev pub gives_told : {A P D : Type 0} → (Option Told → D → D) → Answer A → (A → P) → P × D → ℕ × (P × D)
gives_told tell (Ok x) parts old = (0, (parts x, old.1))
gives_told tell (Err k) parts old = (number k, (old.0, tell (told k) old.1))

-- a day's list asked by Gregorian date: its count or how far outside the date lies, and the lent buffer
abbrev pub gives_list_ad : Listed → ℕ × (ℕ × ℕ) → (ℕ × (ℕ × (ℕ × ℕ))) × List ℕ
gives_list_ad l old = (gives_told days_in l.answer (λ n. n) old, l.buffer)

-- a rule file read: its count and the place of the line, and the lent buffer; one written: its bytes, and the lent buffer
abbrev pub gives_read : Answer ℕ × List ℕ → ℕ × ℕ → (ℕ × (ℕ × ℕ)) × List ℕ
gives_read w old = (gives_told line_in w.0 (λ n. n) old, w.1)

abbrev pub gives_written : Answer ℕ × List ℕ → ℕ → (ℕ × ℕ) × List ℕ
gives_written w old = (gives w.0 (λ n. n) old, w.1)

-- what is written of a Gregorian date, a BS date, a BS month and a reading
abbrev pub numbers : Date → ℕ × ℕ × ℕ
numbers x = (x.year, x.month, x.day)

abbrev pub bs_numbers : BsDate → ℕ × ℕ × ℕ
bs_numbers x = (x.year, x.month, x.day)

abbrev pub month_of : BsMonth → ℕ × ℕ
month_of x = (x.year, x.month)

abbrev pub readings : Reading → ℕ × ℕ × ℕ × ℕ
readings x = (x.tithi, x.end, x.sunrise, x.sunset)

-- a month's days, the numbers of its first and last Gregorian date, and how many cells and festivals
abbrev pub MonthPlaces : Type 0
MonthPlaces = ℕ × (ℕ × ℕ × ℕ) × (ℕ × ℕ × ℕ) × ℕ × ℕ

abbrev pub month_numbers : Month → MonthPlaces
month_numbers x = (x.days, numbers x.first, numbers x.last, x.cells, x.festivals)

-- a month: its numbers, and the two lent buffers
abbrev pub gives_month : Shown → MonthPlaces → (ℕ × MonthPlaces) × (List ℕ × List ℕ)
gives_month m old = (gives m.answer month_numbers old, (m.cells, m.festivals))

-- a lent table without its rows: its first year, and the Gregorian date of its first day
abbrev pub table : ℕ → ℕ → ℕ → ℕ → Table
table first y m d = record { first_year = first; year = y; month = m; day = d }

-- the calendar of a lent table and its rows
abbrev pub lent : ℕ → ℕ → ℕ → ℕ → List ℕ → Calendar
lent first y m d rows = flat (table first y m d) rows

-- the instant of a kala by its number in a rule; a number that a rule may not have is refused as that rule is
unfoldable pub kala_by : ℕ → Date → Answer (Option Float)
kala_by k x = given (leb k 5) BadRules (kala_answer (kala_named k) x)

-- whether what is lent is accepted: yes, or the refusal k
abbrev pub accepting : Bool → Refusal → Answer Unit
accepting true k = Ok tt
accepting false k = Err k

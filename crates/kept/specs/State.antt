-- The kept state: a year table, rules, and the years that are stored, each with its computed entries. Assumes nothing.
use Rattle.std.specs.Prelude.{ℕ, ◌+◌, ◌-◌, ◌≡◌, Bool, true, false, cond, ◌&&◌, List, [], ◌∷◌, ◌⊎◌, leb, eqb}
use Rattle.gregorian.specs.Calendar.{is_date, day_number}
use Rattle.conversion.specs.declared.Table.{Table}
use Rattle.conversion.specs.Calendar.{Calendar, year_ok}
use Rattle.conversion.specs.Flat.{accepted, flat, first_day, date}
use Rattle.rules.specs.Rules.{rules_of, accepted_rules}
use Rattle.festivals.specs.Kathmandu.{resolved_year}

-- a BS year and its computed entries
pub record Year : Type 0 where
  pub year : ℕ
  pub days : List ℕ

abbrev pub year_of : ℕ → List ℕ → Year
year_of y days = record { year = y; days = days }

-- the rows and the rules as the calls lend them, and the stored years, rising
pub record State : Type 0 where
  pub table : Table
  pub rows : List ℕ
  pub rules : List ℕ
  pub stored : List Year

abbrev pub calendar : State → Calendar
calendar σ = flat σ.table σ.rows

-- ---- the stored years

-- which years are stored
abbrev pub year_numbers : List Year → List ℕ
year_numbers [] = []
year_numbers (k ∷ ks) = k.year ∷ year_numbers ks

-- a year worked out from a calendar and rules
abbrev pub fresh : Calendar → List ℕ → ℕ → Year
fresh c rules y = year_of y (resolved_year c (rules_of rules) y)

abbrev pub fresh_all : Calendar → List ℕ → List ℕ → List Year
fresh_all c rules [] = []
fresh_all c rules (y ∷ ys) = fresh c rules y ∷ fresh_all c rules ys

-- the same years, worked out afresh
abbrev pub anew : Calendar → List ℕ → List Year → List Year
anew c rules ks = fresh_all c rules (year_numbers ks)

-- those of some years that the table has
abbrev pub table_years : Calendar → List ℕ → List ℕ
table_years c [] = []
table_years c (y ∷ ys) = cond (year_ok c y) (y ∷ table_years c ys) (table_years c ys)

-- the table years that month m of year y draws computed rules from: in months 1 and 2 the year before too
unfoldable pub drawn : Calendar → ℕ → ℕ → List ℕ
drawn c y m = table_years c (cond (leb m 2) ((y - 1) ∷ y ∷ []) (y ∷ []))

-- whether each is a year of the table
abbrev pub among : Calendar → List ℕ → Bool
among c [] = true
among c (y ∷ ys) = year_ok c y && among c ys

-- whether they are none, one, or a year and the one after it
abbrev pub following : List ℕ → Bool
following [] = true
following (y ∷ []) = true
following (y ∷ z ∷ []) = eqb z (y + 1)
following (y ∷ z ∷ w ∷ ys) = false

-- ---- which states are good

-- what a table says besides its rows: a first year from 1 to 3,000, and a first day that is a date from 1901 to 2099
unfoldable pub startable : Table → Bool
startable t =
    leb 1 t.first_year
    && (leb t.first_year 3000
    && (is_date t.year t.month t.day
    && (leb (day_number (date 1901 1 1)) (day_number (first_day t)) && leb (day_number (first_day t)) (day_number (date 2099 12 31)))))

pub record Good (σ : State) : Type 0 where
  pub start : startable σ.table ≡ true
  -- no row, or an accepted table
  pub table : (σ.rows ≡ []) ⊎ (accepted σ.table σ.rows ≡ true)
  pub rules : accepted_rules σ.rules ≡ true
  -- each stored year equals the year worked out afresh
  pub stored : σ.stored ≡ anew (calendar σ) σ.rules σ.stored
  pub in_table : among (calendar σ) (year_numbers σ.stored) ≡ true
  pub follow : following (year_numbers σ.stored) ≡ true

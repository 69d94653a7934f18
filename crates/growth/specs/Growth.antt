-- The page on a year table and the same with rows added, as it is printed. Assumes nothing.
use Rattle.std.specs.Prelude.{ℕ, ◌+◌, ◌-◌, ◌≡◌, Bool, true, cond, ◌&&◌, List, [], ◌∷◌, ◌++◌, leb, eqb, length, drop, None, Option, Some}
use Rattle.text.specs.Digits.{digits}
use Rattle.text.specs.Quoted.{bytes}
use Rattle.output.specs.Gathered.{Gathered}
use Rattle.conversion.specs.declared.Table.{Table}
use Rattle.conversion.specs.Calendar.{Calendar}
use Rattle.rules.specs.declared.Rule.{Rule}
use Rattle.festivals.specs.Months.{year_days}
use Rattle.output.specs.Pieces.{Text, put_pieces, date_pieces}
use Rattle.doubtful.specs.Tallies.{no_tally, count_pieces}
use Rattle.doubtful.specs.Years.{Sheet, years_page}

-- two tables begin with the same year and day
abbrev pub same_first : Table → Table → Bool
same_first a b =
    ((eqb a.first_year b.first_year && eqb a.year b.year) && eqb a.month b.month) && eqb a.day b.day

-- the second table is the first with rows added, under one first line: what `steady` asks
pub record Grown (a : Table) (old : List ℕ) (b : Table) (new : List ℕ) : Type 0 where
  pub first : same_first a b ≡ true
  pub rows : new ≡ old ++ drop (length old) new

-- the year of the last row
unfoldable pub last_year : Calendar → ℕ
last_year c = c.first + c.years - 1

-- ---- years and their days

-- from one day to another
unfoldable pub days_pieces : ℕ → ℕ → List Text
days_pieces first last = bytes ", " ∷ (date_pieces first ++ (bytes " to " ∷ date_pieces last))

-- years from one to another, and their first and last day
unfoldable pub line_pieces : Text → ℕ → ℕ → ℕ → ℕ → List Text
line_pieces label year last first_day last_day =
    label ∷ digits year ∷ bytes " to " ∷ digits last ∷ (days_pieces first_day last_day ++ (bytes "\n" ∷ []))

-- by the first and the last day of the one year and of the other; nothing where one is not in the table
abbrev pub between_pieces : Text → ℕ → ℕ → Option (ℕ × ℕ) → Option (ℕ × ℕ) → List Text
between_pieces label year last None e = []
between_pieces label year last (Some d) None = []
between_pieces label year last (Some d) (Some e) = line_pieces label year last d.0 e.1

-- years of a table from one to another
unfoldable pub years_pieces : Calendar → Text → ℕ → ℕ → List Text
years_pieces c label year last = between_pieces label year last (year_days c year) (year_days c last)

-- all the years of both tables
unfoldable pub tables_pieces : Calendar → Calendar → List Text
tables_pieces old new =
    years_pieces old (bytes "OLD: accepted, BS ") old.first (last_year old)
    ++ years_pieces new (bytes "NEW: accepted, BS ") new.first (last_year new)

-- ---- what stays and what is new

unfoldable pub same_pieces : List Text
same_pieces =
    bytes "What OLD answers NEW answers with the same numbers: dates, month lengths, month steps, day lists, holidays, month grids.\n"
    ∷ bytes "  theorem `steady`, crates/steady/proofs/Steady.antt"
    ∷ bytes "; for dates `steady`, crates/conversion/proofs/Theorems.antt\n"
    ∷ []

unfoldable pub new_pieces : List Text
new_pieces =
    bytes "What NEW answers OLD refuses exactly if it lies in an added year.\n"
    ∷ bytes "  the same theorem, its fields `added`\n"
    ∷ []

-- years that are gained, and both
unfoldable pub gained_pieces : Calendar → ℕ → ℕ → List Text
gained_pieces new year last = years_pieces new (bytes "Added: BS ") year last ++ (same_pieces ++ new_pieces)

-- ---- the page

-- a sheet with its counts behind what is written
abbrev pub counted : Sheet → Gathered
counted s = put_pieces s.written (count_pieces s.tally)

module _ (new : Calendar) (rules : List Rule) (names : List ℕ) where
  -- the doubtful new moons of the years from one to another, and how many there are
  unfoldable pub found_page : ℕ → ℕ → Gathered → Gathered
  found_page year last g = counted (years_page new rules names year (last + 1 - year) (record { written = g; tally = no_tally }))

  -- the years after one, up to the last
  unfoldable pub added_page : ℕ → ℕ → Gathered → Gathered
  added_page year last g =
      cond (leb last year)
      (put_pieces g (bytes "Added: nothing\n" ∷ []))
      (found_page (year + 1) last (put_pieces g (gained_pieces new (year + 1) last)))

  -- all of it, where the new table is the old one with rows added
  unfoldable pub grown_page : Calendar → Gathered → Gathered
  grown_page old g = added_page (last_year old) (last_year new) (put_pieces g (tables_pieces old new))

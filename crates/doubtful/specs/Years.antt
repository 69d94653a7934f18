-- What a BS year puts on a page: its heading once, its doubtful new moons, and its lunar months that no new moon opens. Assumes nothing.
use Rattle.std.specs.Prelude.{ℕ, zero, suc, ◌+◌, Bool, true, false, cond, List, [], ◌∷◌, ◌++◌, eqb, Float, Err, None, Ok, Option, Some}
use Rattle.std.specs.Float.Ieee.{eq}
use Rattle.paper.specs.Answers.{Answer}
use Rattle.output.specs.Gathered.{Gathered, gathered}
use Rattle.conversion.specs.declared.BsDate.{BsDate}
use Rattle.conversion.specs.Calendar.{Calendar, month_len}
use Rattle.rules.specs.declared.Rule.{Rule}
use Rattle.rules.specs.Days.{holds}
use Rattle.festivals.specs.Kathmandu.{moons_around, opening_in}
use Rattle.festivals.specs.Months.{year_days}
use Rattle.notes.specs.Near.{dated_moon, nearness}
use Rattle.output.specs.Pieces.{Text, put_pieces}
use Rattle.notes.specs.Lines.{moment_pieces, opening_pieces, none_pieces, rules_pieces, beside_pieces}
use Rattle.doubtful.specs.Tallies.{Tally, tally_of, with_heading, doubted, unopened, heading_pieces}
use Rattle.doubtful.specs.declared.page.Page.{Page}

-- ---- a sheet: what is written, and the counts

pub record Sheet : Type 0 where
  pub written : Gathered
  pub tally : Tally

-- of a page and its lent buffer
abbrev pub sheet : List ℕ → Page → Sheet
sheet buffer p = record { written = gathered buffer p.out; tally = tally_of p }

-- lines under the heading of a year, and what they count
unfoldable pub under : ℕ → List Text → (Tally → Tally) → Sheet → Sheet
under y pieces count s =
    record { written = put_pieces s.written (heading_pieces s.tally.headed y ++ pieces); tally = count s.tally }

-- ---- a new moon

module _ (rules : List Rule) (names : List ℕ) (x : Float) (n : ℕ) (t : BsDate) (opens : Bool) where
  -- after the beginning of a month or before its end it is doubtful, and on a first day if after; far from both, if it opens nothing
  abbrev pub near_line : Option (Bool × ℕ) → Sheet → Sheet
  near_line (Some d) s =
      under t.year (moment_pieces x n ++ beside_pieces rules names t opens d.0 d.1) (doubted true d.0 opens) s
  near_line None s = cond opens s (under t.year (moment_pieces x n ++ opening_pieces t opens) (doubted false false opens) s)

  -- a new moon of day n, which is t, in a month of so many days
  unfoldable pub dated_line : ℕ → Sheet → Sheet
  dated_line len s = near_line (nearness x n t.day len) s

-- ---- a lunar month

module _ (rules : List Rule) (names : List ℕ) (y : ℕ) where
  -- lunar month m of year y, unless it is opened
  unfoldable pub month_line : Bool → ℕ → Sheet → Sheet
  month_line opened m s = cond opened s (under y (none_pieces y m ++ rules_pieces rules names m) unopened s)

  -- k lunar months, the first of which is the one after j; whether a month is opened, by its place from 0 on
  unfoldable pub month_lines : (ℕ → Bool) → ℕ → ℕ → Sheet → Sheet
  month_lines opened j zero s = s
  month_lines opened j (suc k) s = month_lines opened (j + 1) k (month_line (opened j) (j + 1) s)

-- ---- a year

module _ (c : Calendar) (y : ℕ) where
  -- a new moon is the one that opens lunar month m
  unfoldable pub opens_month : ℕ → Float → Bool
  opens_month m x = holds (opening_in c y m) (λ o. eq o x)

  -- a new moon opens the lunar month of place j
  unfoldable pub opened_at : ℕ → Bool
  opened_at j = holds (opening_in c y (j + 1)) (λ o. true)

  module _ (rules : List Rule) (names : List ℕ) where
    -- a new moon of day n, which is t, by the length of its month
    abbrev pub length_line : Float → ℕ → BsDate → Answer ℕ → Sheet → Sheet
    length_line x n t (Ok len) s = dated_line rules names x n t (opens_month t.month x) len s
    length_line x n t (Err k) s = s

    -- the same, where the table has its month
    unfoldable pub placed_line : Float → ℕ → BsDate → Sheet → Sheet
    placed_line x n t s = length_line x n t (month_len c t.year t.month) s

    -- by its day in Nepal and its date, which may be of another year
    abbrev pub day_line : Float → Option (ℕ × BsDate) → Sheet → Sheet
    day_line x (Some d) s = cond (eqb d.1.year y) (placed_line x d.0 d.1 s) s
    day_line x None s = s

    -- a new moon, if it is doubtful and its day is one of the year
    unfoldable pub moon_line : Float → Sheet → Sheet
    moon_line x s = day_line x (dated_moon c x) s

    -- new moons, the first first
    unfoldable pub moon_lines : List Float → Sheet → Sheet
    moon_lines [] s = s
    moon_lines (x ∷ xs) s = moon_lines xs (moon_line x s)

    -- from its first day to its last: the new moons around them, and then the lunar months that none opens
    abbrev pub days_page : Option (ℕ × ℕ) → Sheet → Sheet
    days_page (Some d) s =
        month_lines rules names y opened_at 0 12
        (moon_lines (moons_around d.0 d.1) (record { written = s.written; tally = with_heading false s.tally }))
    days_page None s = s

    -- a year of the table; another puts nothing
    unfoldable pub year_page : Sheet → Sheet
    year_page s = days_page (year_days c y) s

-- ---- years

module _ (c : Calendar) (rules : List Rule) (names : List ℕ) where
  -- so many years, of which y is the first
  unfoldable pub years_page : ℕ → ℕ → Sheet → Sheet
  years_page y zero s = s
  years_page y (suc k) s = years_page (y + 1) k (year_page c y rules names s)

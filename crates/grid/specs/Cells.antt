-- A day's cell of twelve numbers, and cells laid out in weeks from Sunday. Assumes nothing.
use Rattle.std.specs.Prelude.{ℕ, ◌+◌, ◌-◌, ◌%◌, Bool, true, false, ◌&&◌, ◌||◌, List, [], ◌∷◌, ◌++◌, eqb, length, replicate}
use Rattle.gregorian.specs.declared.Date.{Date}
use Rattle.gregorian.specs.Calendar.{weekday_of}
use Rattle.rules.specs.declared.lists.Day.{Day}
use Rattle.rules.specs.Festivals.{Pair}
use Rattle.panchanga.specs.declared.lunar.Reading.{Reading}

-- ---- a day

abbrev pub one : Bool → ℕ
one true = 1
one false = 0

abbrev pub same : Date → Date → Bool
same a b = eqb a.year b.year && eqb a.month b.month && eqb a.day b.day

-- a holiday is in the list
unfoldable pub any_holiday : List Pair → Bool
any_holiday [] = false
any_holiday (e ∷ es) = eqb e.1 1 || any_holiday es

abbrev pub saturday : ℕ → Bool
saturday n = eqb (weekday_of n) 6

-- the holiday of day number n with its list as shown: a Saturday, or a holiday in that list
abbrev pub holiday_of : ℕ → List Pair → Bool
holiday_of n list = saturday n || any_holiday list

-- the cell of a day: how many festivals it has, whether it is a holiday, and its reading
-- (BS day; Gregorian year, month, day; weekday; today; holiday; tithi; tithi end; sunrise; sunset; festival count)
unfoldable pub cell_with : Date → Day → ℕ → Bool → Reading → List ℕ
cell_with today q count holiday r =
    q.bs.day
    ∷ q.ad.year
    ∷ q.ad.month
    ∷ q.ad.day
    ∷ weekday_of q.number
    ∷ one (same q.ad today)
    ∷ one holiday
    ∷ r.tithi
    ∷ r.end
    ∷ r.sunrise
    ∷ r.sunset
    ∷ count
    ∷ []

-- the cell of a day with its list as shown
abbrev pub day_cell : Date → Day → List Pair → Reading → List ℕ
day_cell today q list r = cell_with today q (length list) (holiday_of q.number list) r

-- ---- the layout

-- padding: twelve times 0
abbrev pub blank : List ℕ
blank = replicate 12 0

-- how many cells fill the last week, after k cells
abbrev pub to_fill : ℕ → ℕ
to_fill k = (7 - k % 7) % 7

-- whole weeks: blanks up to the first day's weekday, the days, blanks to the week's end
unfoldable pub weeks : ℕ → List (List ℕ) → List (List ℕ)
weeks lead days = replicate lead blank ++ days ++ replicate (to_fill (lead + length days)) blank

-- one after the other
unfoldable pub joined : {A : Type 0} → List (List A) → List A
joined [] = []
joined (l ∷ ls) = l ++ joined ls

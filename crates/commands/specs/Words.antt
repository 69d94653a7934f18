-- What the words of the command line ask. Assumes nothing.
use Rattle.std.specs.Prelude.{ℕ, cond, List, ◌==◌, None, Option, Some}
use Rattle.text.specs.Digits.{whole_number}
use Rattle.text.specs.Dashed.{numbers, ended}
use Rattle.gregorian.specs.declared.Date.{Date}
use Rattle.commands.specs.declared.words.Asked.{Asked}
use Rattle.commands.specs.declared.words.Asked.TheVariants as A

-- ---- a word

abbrev pub as_date : Option (ℕ × ℕ × ℕ) → Option Date
as_date (Some (y, m, d)) = Some (record { year = y; month = m; day = d })
as_date None = None

-- the date that a whole word is, as YYYY-MM-DD, whether there is such a date or not
unfoldable pub date_in : List ℕ → Option Date
date_in s = as_date (ended (numbers 4 2 s))

-- the number up to 65,535 that a whole word is
abbrev pub number_in : List ℕ → Option ℕ
number_in s = whole_number 65535 s

abbrev pub paired : Option ℕ → Option ℕ → Option (ℕ × ℕ)
paired (Some x) (Some y) = Some (x, y)
paired (Some x) None = None
paired None b = None

-- the numbers that two words are
abbrev pub pair_in : List ℕ → List ℕ → Option (ℕ × ℕ)
pair_in a b = paired (number_in a) (number_in b)

-- ---- today

-- a date, or one that is before every table's first day
abbrev pub or_first : Option Date → Date
or_first (Some x) = x
or_first None = record { year = 1900; month = 1; day = 1 }

-- ---- one, two or three words

abbrev pub asked_date : Option Date → Option Asked
asked_date (Some x) = Some (A.Date x)
asked_date None = None

-- two numbers are a BS year and a month
abbrev pub asked_month : Option (ℕ × ℕ) → Option Asked
asked_month (Some (y, m)) = Some (A.Month y m)
asked_month None = None

-- and with a third the day
abbrev pub asked_day : Option (ℕ × ℕ) → Option ℕ → Option Asked
asked_day (Some (y, m)) (Some d) = Some (A.Day y m d)
asked_day (Some (y, m)) None = None
asked_day None d = None

-- one word is a Gregorian date, two are a BS month, three a BS date
unfoldable pub asked_by : ℕ → List ℕ → List ℕ → List ℕ → Option Asked
asked_by count a b c =
    cond (count == 1) (asked_date (date_in a))
    (cond (count == 2) (asked_month (pair_in a b)) (cond (count == 3) (asked_day (pair_in a b) (number_in c)) None))

-- one word that is a number is a BS year
unfoldable pub year_by : ℕ → List ℕ → Option ℕ
year_by count a = cond (count == 1) (number_in a) None

-- the Gregorian date that is asked; where it is a BS month or date, one that is before every table's first day
abbrev pub date_asked : Asked → Date
date_asked (A.Month y m) = record { year = 1900; month = 1; day = 1 }
date_asked (A.Day y m d) = record { year = 1900; month = 1; day = 1 }
date_asked (A.Date x) = x

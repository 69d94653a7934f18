-- A page as texts put one after the other, which are gathered in a lent buffer until they are written out; and dates, times and months as such
-- pieces. Assumes nothing.
use Rattle.std.specs.Prelude.{ℕ, ◌/◌, ◌%◌, false, ◌≡◌, List, [], ◌∷◌, Err, Ok}
use Rattle.paper.specs.Answers.{Answer}
use Rattle.text.specs.Digits.{run, digits}
use Rattle.text.specs.Quoted.{bytes}
use Rattle.gregorian.specs.declared.Date.{Date}
use Rattle.gregorian.specs.Answers.{date_answer}
use Rattle.output.specs.Gathered.{Gathered, gathered, stored}
use Rattle.output.specs.declared.Out.{Out}

-- ---- a page

-- bytes
abbrev pub Text : Type 0
Text = List ℕ

-- a text of at most 128 bytes
abbrev pub put_piece : Gathered → Text → Gathered
put_piece g text = stored 128 g text false

-- pieces, the first first
abbrev pub put_pieces : Gathered → List Text → Gathered
put_pieces g [] = g
put_pieces g (x ∷ xs) = put_pieces (put_piece g x) xs

-- these pieces were put behind what was gathered
pub record Puts (before : List ℕ) (o : Out) (pieces : List Text) (after : List ℕ) (r : Out) : Type 0 where
  pub same : gathered after r ≡ put_pieces (gathered before o) pieces

-- ---- dates, times and months

-- YYYY-MM-DD
unfoldable pub ymd_pieces : Date → List Text
ymd_pieces d = run 10 4 d.year ∷ bytes "-" ∷ run 10 2 d.month ∷ bytes "-" ∷ run 10 2 d.day ∷ []

-- a date, where there is one
abbrev pub dated_pieces : Answer Date → List Text
dated_pieces (Ok d) = ymd_pieces d
dated_pieces (Err k) = bytes "no date" ∷ []

-- the Gregorian date of a day number
unfoldable pub date_pieces : ℕ → List Text
date_pieces n = dated_pieces (date_answer n)

-- a minute of the day, HH:MM
unfoldable pub clock_pieces : ℕ → List Text
clock_pieces minute = run 10 2 (minute / 60) ∷ bytes ":" ∷ run 10 2 (minute % 60) ∷ []

-- so many minutes, H h MM min
unfoldable pub span_pieces : ℕ → List Text
span_pieces minutes = digits (minutes / 60) ∷ bytes " h " ∷ run 10 2 (minutes % 60) ∷ bytes " min" ∷ []

-- a BS year and month, Y/M
unfoldable pub month_pieces : ℕ → ℕ → List Text
month_pieces year month = digits year ∷ bytes "/" ∷ digits month ∷ []

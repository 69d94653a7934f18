-- How far outside the table a Gregorian date lies, in words. Assumes nothing.
use Rattle.std.specs.Prelude.{ℕ, ◌+◌, ◌-◌, ◌%◌, ◌^◌, cond, List, ◌++◌, ◌==◌, Err, Ok}
use Rattle.paper.specs.Answers.{Answer}
use Rattle.text.specs.Digits.{run, digits}
use Rattle.text.specs.Quoted.{bytes}
use Rattle.gregorian.specs.declared.Date.{Date}
use Rattle.gregorian.specs.Answers.{number_answer, date_answer}
use Rattle.wall.specs.Columns.{full_date}

-- 1943-04-13
unfoldable pub dashed_text : Date → List ℕ
dashed_text d = run 10 4 d.year ++ (bytes "-" ++ (run 10 2 d.month ++ (bytes "-" ++ run 10 2 d.day)))

-- 1 day, 2 days
unfoldable pub count_text : ℕ → List ℕ
count_text k = digits k ++ cond (k == 1) (bytes " day") (bytes " days")

-- 14 April 1943, of a day number
abbrev pub dated_text : Answer Date → List ℕ
dated_text (Ok d) = full_date d.year d.month d.day
dated_text (Err k) = bytes "no date"

unfoldable pub day_text : ℕ → List ℕ
day_text n = dated_text (date_answer n)

-- the number of a date, 0 of what is none
abbrev pub or_zero : Answer ℕ → ℕ
or_zero (Ok n) = n
or_zero (Err k) = 0

abbrev pub number_of : Date → ℕ
number_of d = or_zero (number_answer d)

-- the day so many days after a date, in 32 bits, which no date leaves; and the day so many days before it
abbrev pub later : Date → ℕ → ℕ
later d k = (number_of d + k) % 2 ^ 32

abbrev pub earlier : Date → ℕ → ℕ
earlier d k = number_of d - k

-- a date, how many days, on which side of which day
unfoldable pub side_text : Date → ℕ → List ℕ → ℕ → List ℕ
side_text d k side n = dashed_text d ++ (bytes " is " ++ (count_text k ++ (side ++ day_text n)))

-- 1943-04-13 is 1 day before the first day of the table, 14 April 1943
unfoldable pub before_text : Date → ℕ → List ℕ
before_text d k = side_text d k (bytes " before the first day of the table, ") (later d k)

-- 2043-04-14 is 1 day after the last day of the table, 13 April 2043
unfoldable pub after_text : Date → ℕ → List ℕ
after_text d k = side_text d k (bytes " after the last day of the table, ") (earlier d k)

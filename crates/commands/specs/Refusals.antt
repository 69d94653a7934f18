-- Why there is no page: the line that says so. Assumes nothing.
use Rattle.std.specs.Prelude.{ℕ, List, ◌++◌}
use Rattle.paper.specs.declared.Refusal.{Refusal}
use Rattle.paper.specs.declared.Refusal.TheVariants as R
use Rattle.paper.specs.Refusals.{number}
use Rattle.text.specs.Digits.{digits}
use Rattle.gregorian.specs.declared.Date.{Date}
use Rattle.commands.specs.Outside.{before_text, after_text}
use Rattle.text.specs.Quoted.{bytes}

-- line 3 is out of form
abbrev pub form_text : ℕ → List ℕ
form_text line = bytes "line " ++ (digits line ++ bytes " is out of form")

-- what a refusal means for a page, of the Gregorian date that was asked where it tells how far outside that lies; 8 and 10 to 13 are none of a page's
abbrev pub reason_text : Date → Refusal → List ℕ
reason_text d R.BadTable = bytes "the year table is not good"
reason_text d R.BadRules = bytes "the rules are not good"
reason_text d R.NoSuchDate = bytes "there is no such Gregorian date from 1900 to 2149"
reason_text d R.NoYear = bytes "the BS year is not in the year table"
reason_text d R.NoMonth = bytes "the BS month is not 1 to 12"
reason_text d R.NoDay = bytes "the BS day is 0 or past the month's end"
reason_text d (R.Before k) = before_text d k
reason_text d (R.After k) = after_text d k
reason_text d R.OutOfRange = bytes "an instant is out of range"
reason_text d R.NoRoom = bytes "the page is longer than this program can hold"
reason_text d R.OffTable = bytes "the month is not in the year table"
reason_text d R.NotEnded = bytes "a search did not end"
reason_text d (R.OutOfForm line) = form_text line
reason_text d R.NoRow = bytes "no year row is held yet"

-- patro: refused, 5: the BS month is not 1 to 12
unfoldable pub refusal_text : Date → Refusal → List ℕ
refusal_text d why = bytes "patro: refused, " ++ (digits (number why) ++ (bytes ": " ++ (reason_text d why ++ bytes "\n")))

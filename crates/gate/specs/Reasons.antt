-- Why a date is a holiday. Assumes nothing.
use Rattle.std.specs.Prelude.{ℕ, cond, List, [], ◌∷◌, eqb, Err, Ok, None, Option, Some}
use Rattle.paper.specs.Answers.{Answer, then}
use Rattle.conversion.specs.declared.Table.{Table}
use Rattle.conversion.specs.Calendar.{Calendar, bs, to_day, from_ad}
use Rattle.conversion.specs.Flat.{flat}
use Rattle.rules.specs.Lent.{lent}
use Rattle.rules.specs.Rules.{rules_of, accepted_rules}
use Rattle.rules.specs.Festivals.{Pair}
use Rattle.festivals.specs.Kathmandu.{day_list_of}
use Rattle.grid.specs.Cells.{saturday}
use Rattle.commands.specs.declared.words.Asked.{Asked}
use Rattle.commands.specs.declared.words.Asked.TheVariants as A
use Rattle.gate.specs.declared.reasons.Reason.{Reason}
use Rattle.gate.specs.declared.reasons.Reason.TheVariants.{Saturday, Festival}

-- the first entry of a list that is a holiday
unfoldable pub first_holiday : List Pair → Option Reason
first_holiday [] = None
first_holiday (e ∷ es) = cond (eqb e.1 1) (Some (Festival e.0)) (first_holiday es)

-- the reason of day number n with its list as shown: that it is a Saturday comes first
unfoldable pub reason_of : ℕ → List Pair → Option Reason
reason_of n list = cond (saturday n) (Some Saturday) (first_holiday list)

-- of a BS date, over a calendar: refusals 1, 2, 4, 5, 6
unfoldable pub reason_under : Calendar → List ℕ → ℕ → ℕ → ℕ → Answer (Option Reason)
reason_under c rules y m d =
    lent c (accepted_rules rules) (then (to_day c y m d) (λ n. Ok (reason_of n (day_list_of c (rules_of rules) (bs y m d) n))))

abbrev pub reason_on : Table → List ℕ → List ℕ → ℕ → ℕ → ℕ → Answer (Option Reason)
reason_on t rows rules y m d = reason_under (flat t rows) rules y m d

-- of what is asked: a BS date, a Gregorian date by its BS date (refusals 1, 3, 7 come first), a month as its day 0
unfoldable pub reason_asked : Table → List ℕ → List ℕ → Asked → Answer (Option Reason)
reason_asked t rows rules (A.Month y m) = reason_on t rows rules y m 0
reason_asked t rows rules (A.Day y m d) = reason_on t rows rules y m d
reason_asked t rows rules (A.Date x) =
    then (from_ad (flat t rows) x.year x.month x.day) (λ b. reason_on t rows rules b.year b.month b.day)

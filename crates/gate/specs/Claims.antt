-- What is claimed of reasons. Assumes nothing.
use Rattle.std.specs.Prelude.{ℕ, ◌≡◌, Bool, true, false, List, Ok, None, Option, Some}
use Rattle.paper.specs.Answers.{then}
use Rattle.conversion.specs.declared.Table.{Table}
use Rattle.holiday.specs.Holiday.{holiday_on}
use Rattle.gate.specs.declared.reasons.Reason.{Reason}
use Rattle.gate.specs.Reasons.{reason_on}

-- whether there is a reason
abbrev pub is_yes : Option Reason → Bool
is_yes None = false
is_yes (Some r) = true

-- that there is a reason is what `is_holiday` answers of the date, refusals too
abbrev pub YesExactly : Type 0
YesExactly = (t : Table) (rows rules : List ℕ) (y m d : ℕ) → then (reason_on t rows rules y m d) (λ r. Ok (is_yes r)) ≡ holiday_on t rows rules y m d

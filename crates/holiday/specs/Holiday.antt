-- Whether a day is a holiday, asked by BS date (docs/RULES.md, Holiday, month and month step). Assumes nothing.
use Rattle.std.specs.Prelude.{ℕ, Bool, List, Ok}
use Rattle.paper.specs.Answers.{Answer, then}
use Rattle.conversion.specs.declared.Table.{Table}
use Rattle.conversion.specs.Calendar.{Calendar, bs, to_day}
use Rattle.conversion.specs.Flat.{flat}
use Rattle.rules.specs.declared.Rule.{Rule}
use Rattle.rules.specs.Lent.{lent}
use Rattle.rules.specs.Rules.{rules_of, accepted_rules}
use Rattle.rules.specs.Sky.{Sky}
use Rattle.rules.specs.Festivals.{day_list}
use Rattle.festivals.specs.Kathmandu.{kathmandu}
use Rattle.grid.specs.Cells.{holiday_of}

-- over any sky and any calendar; ok says whether the rules are good: refusals 1, 2, 4, 5, 6.
-- A holiday is a Saturday, or a day with a holiday in its list as shown
unfoldable pub holiday_by : {I : Type 0} → Sky I → Calendar → List Rule → Bool → ℕ → ℕ → ℕ → Answer Bool
holiday_by s c rs ok y m d = lent c ok (then (to_day c y m d) (λ n. Ok (holiday_of n (day_list s c rs (bs y m d) n))))

-- over Kathmandu, by a calendar and lent rules
abbrev pub holiday_under : Calendar → List ℕ → ℕ → ℕ → ℕ → Answer Bool
holiday_under c rules y m d = holiday_by kathmandu c (rules_of rules) (accepted_rules rules) y m d

-- by a lent table and lent rules
abbrev pub holiday_on : Table → List ℕ → List ℕ → ℕ → ℕ → ℕ → Answer Bool
holiday_on t rows rules y m d = holiday_under (flat t rows) rules y m d

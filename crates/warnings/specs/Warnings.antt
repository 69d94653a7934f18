-- What a list of rules in form may say that the clerk did not mean: five warnings that a rule can have, by the rules before it, all rules, the names and the
-- calendar. Assumes nothing.
use Rattle.std.specs.Prelude.{ℕ, ◌+◌, Bool, cond, not, ◌&&◌, List, [], ◌∷◌, leb, ltb, eqb, Err, None, Ok, Option, Some, option_map}
use Rattle.paper.specs.Answers.{Answer}
use Rattle.conversion.specs.Calendar.{Calendar, month_len}
use Rattle.naming.specs.Names.{has_name}
use Rattle.rules.specs.declared.Rule.{Rule}
use Rattle.warnings.specs.declared.search.Like.{Like}
use Rattle.warnings.specs.declared.search.Like.TheVariants as like
use Rattle.warnings.specs.declared.finding.Warning.{Warning}
use Rattle.warnings.specs.declared.finding.Warning.TheVariants as warning

-- ---- how another rule stands to a rule

-- the same in all eight numbers
abbrev pub same : Rule → Rule → Bool
same r s =
    eqb r.kind s.kind && eqb r.year s.year && eqb r.month s.month && eqb r.day s.day
    && eqb r.half s.half && eqb r.kala s.kala && eqb r.name s.name && eqb r.holiday s.holiday

-- of kind 1 to 3: a festival, where kind 4 gives a date to one
abbrev pub festival : Rule → Bool
festival r = leb 1 r.kind && leb r.kind 3

-- of kind 1 or 2: a date that is the same every year
abbrev pub yearly : Rule → Bool
yearly r = leb 1 r.kind && leb r.kind 2

-- the rule s is the same as r; it has the name of r; and it is a festival too, and another one; and its date is the same every year
abbrev pub stands : Like → Rule → Rule → Bool
stands like.Same r s = same r s
stands like.Named r s = eqb r.name s.name
stands like.Other r s = festival s && eqb r.name s.name && not (same r s)
stands like.Yearly r s = yearly s && eqb r.name s.name

-- the first of these rules, before which i stand, that stands so to r
unfoldable pub first_like : Like → Rule → List Rule → ℕ → Option ℕ
first_like how r [] i = None
first_like how r (s ∷ rs) i = cond (stands how r s) (Some i) (first_like how r rs (i + 1))

-- ---- the warnings of a rule

-- 1: a rule before it is the same
abbrev pub twice : List Rule → Rule → Option Warning
twice before r = option_map (λ i. warning.Twice i) (first_like like.Same r before 0)

-- 2: it is a festival, and another festival before it has its name
unfoldable pub shared : List Rule → Rule → Option Warning
shared before r = cond (festival r) (option_map (λ i. warning.Shared r.name i) (first_like like.Other r before 0)) None

-- 3: the names, where there are any, have no text for its name, and it is the first rule with this name
abbrev pub no_text_as : ℕ → Option ℕ → Option Warning
no_text_as name (Some i) = None
no_text_as name None = Some (warning.NoText name)

unfoldable pub no_text : Option (List ℕ) → List Rule → Rule → Option Warning
no_text None before r = None
no_text (Some names) before r = cond (has_name r.name names) None (no_text_as r.name (first_like like.Named r before 0))

-- 4: it gives a date whose month the calendar has, and the month ends before that day
abbrev pub no_day_as : Rule → Answer ℕ → Option Warning
no_day_as r (Ok n) = cond (ltb n r.day) (Some (warning.NoDay r n)) None
no_day_as r (Err why) = None

unfoldable pub no_day : Calendar → Rule → Option Warning
no_day c r = cond (eqb r.kind 4) (no_day_as r (month_len c r.year r.month)) None

-- 5: it gives a date to a name that a rule with a date of every year has, wherever that stands
unfoldable pub beside : List Rule → Rule → Option Warning
beside rules r = cond (eqb r.kind 4) (option_map (λ i. warning.Beside r.name i) (first_like like.Yearly r rules 0)) None

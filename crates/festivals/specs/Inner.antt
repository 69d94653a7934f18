-- What the inner functions of the day lists promise. Assumes nothing.
use Rattle.std.specs.Prelude.{ℕ, List, Ok}
use Rattle.paper.specs.Answers.{then}
use Rattle.conversion.specs.declared.BsDate.{BsDate}
use Rattle.conversion.specs.declared.Table.{Table}
use Rattle.conversion.specs.Calendar.{from_day}
use Rattle.conversion.specs.Flat.{flat}
use Rattle.rules.specs.declared.lists.Years.{Years}
use Rattle.rules.specs.Rules.{rules_of}
use Rattle.rules.specs.Festivals.{Listed, listed}
use Rattle.rules.specs.Resolved.{day_numbered, list_by}
use Rattle.festivals.specs.Kathmandu.{day_list_of}

-- the list of day number n, whose BS date is known, from two resolved years
abbrev pub listed_from : List ℕ → BsDate → ℕ → Years → List ℕ → Listed
listed_from rules bs n years out = listed (Ok (list_by (rules_of rules) (day_numbered bs n) years)) out

module _ (t : Table) (rows rules : List ℕ) (n : ℕ) (out : List ℕ) where
  -- the list of day number n, whose BS date is known
  abbrev pub listed_on : BsDate → Listed
  listed_on bs = listed (Ok (day_list_of (flat t rows) (rules_of rules) bs n)) out

  -- the list of day number n, if the table has it
  abbrev pub listed_at : Listed
  listed_at = listed (then (from_day (flat t rows) n) (λ bs. Ok (day_list_of (flat t rows) (rules_of rules) bs n))) out

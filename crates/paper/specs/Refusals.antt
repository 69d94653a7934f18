-- The numbers of the refusals in docs/RULES.md, and what is told beside them. Assumes nothing.
use Rattle.std.specs.Prelude.{ℕ, Option, Some, None}
use Rattle.paper.specs.declared.Refusal.{Refusal}
use Rattle.paper.specs.declared.Refusal.TheVariants as R
use Rattle.paper.specs.declared.Told.{Told}
use Rattle.paper.specs.declared.Told.TheVariants as T

abbrev pub number : Refusal → ℕ
number R.BadTable = 1
number R.BadRules = 2
number R.NoSuchDate = 3
number R.NoYear = 4
number R.NoMonth = 5
number R.NoDay = 6
number (R.Before days) = 7
number (R.After days) = 7
number R.OutOfRange = 8
number R.NoRoom = 9
number R.OffTable = 10
number R.NotEnded = 11
number (R.OutOfForm k) = 12
number R.NoRow = 13

-- 7 tells the days before the first day of the table or after its last, 12 the first line that is out of form; the others tell nothing
abbrev pub told : Refusal → Option Told
told R.BadTable = None
told R.BadRules = None
told R.NoSuchDate = None
told R.NoYear = None
told R.NoMonth = None
told R.NoDay = None
told (R.Before days) = Some (T.Before days)
told (R.After days) = Some (T.After days)
told R.OutOfRange = None
told R.NoRoom = None
told R.OffTable = None
told R.NotEnded = None
told (R.OutOfForm k) = Some (T.Line k)
told R.NoRow = None

-- The two conversions over a kept state: they ask its table alone, and leave the state. Assumes nothing.
use Rattle.std.specs.Prelude.{ℕ, ◌≡◌, true, cond, List, [], ◌⊎◌, Err}
use Rattle.paper.specs.declared.Refusal.TheVariants.{NoRow}
use Rattle.paper.specs.Answers.{Answer}
use Rattle.gregorian.specs.declared.Date.{Date}
use Rattle.conversion.specs.declared.Table.{Table}
use Rattle.conversion.specs.declared.BsDate.{BsDate}
use Rattle.conversion.specs.Calendar.{to_ad, from_ad}
use Rattle.conversion.specs.Flat.{accepted}
use Rattle.kept.specs.State.{State, calendar}
use Rattle.kept.specs.Operations.{empty}

-- the table of a good state: no row, or an accepted table
abbrev pub TableHeld : Table → List ℕ → Type 0
TableHeld t rows = (rows ≡ []) ⊎ (accepted t rows ≡ true)

-- a question before a row is held: refusal 13, before every other
unfoldable pub if_row : {A : Type 0} → List ℕ → Answer A → Answer A
if_row rows a = cond (empty rows) (Err NoRow) a

-- the Gregorian date of a BS date, over the table now held: refusals 13, 4, 5, 6
unfoldable pub ask_to_ad : State → ℕ → ℕ → ℕ → Answer Date
ask_to_ad σ y m d = if_row σ.rows (to_ad (calendar σ) y m d)

-- the BS date of a Gregorian date: refusals 13, 3, 7
unfoldable pub ask_from_ad : State → ℕ → ℕ → ℕ → Answer BsDate
ask_from_ad σ y m d = if_row σ.rows (from_ad (calendar σ) y m d)

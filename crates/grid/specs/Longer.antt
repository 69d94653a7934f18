-- The words of demand 3 for the month: two calendars, of which the longer begins as the shorter does. Assumes nothing.
use Rattle.std.specs.Prelude.{ℕ, ◌≡◌, List, length, Ok}
use Rattle.paper.specs.declared.Refusal.TheVariants.{NoYear}
use Rattle.gregorian.specs.declared.Date.{Date}
use Rattle.conversion.specs.Calendar.{Calendar}
use Rattle.conversion.specs.Claims.{Added, RefusedIf}
use Rattle.grid.specs.Month.{Grid, shown}
use Rattle.grid.specs.Kathmandu.{month_under}

pub record MonthsStay (rules : List ℕ) (today : Date) (short long : Calendar) : Type 0 where
  -- every month that the shorter answers: the same grid
  pub month : (y m a b : ℕ) (g : Grid) → month_under short rules today y m a b ≡ Ok g → month_under long rules today y m a b ≡ Ok g
  -- and so the same answer and the same numbers in both buffers
  pub written : (y m : ℕ) (cells festivals : List ℕ) (g : Grid) → month_under short rules today y m (length cells) (length festivals) ≡ Ok g
      → shown (month_under long rules today y m (length cells) (length festivals)) cells festivals
      ≡ shown (month_under short rules today y m (length cells) (length festivals)) cells festivals
  -- a month that the longer answers is refused by the shorter exactly if its year is added
  pub month_added : (y m a b : ℕ) (g : Grid) → month_under long rules today y m a b ≡ Ok g
      → RefusedIf (month_under short rules today y m a b) NoYear (Added short y)

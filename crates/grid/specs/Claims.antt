-- What the theorems on a month that is answered claim. Assumes nothing.
use Rattle.std.specs.Prelude.{ℕ, ◌+◌, ◌*◌, ◌%◌, ◌<◌, ◌≡◌, List, length, get_or, take, drop, replicate}
use Rattle.grid.specs.declared.Month.{Month}
use Rattle.grid.specs.Cells.{blank, to_fill}
use Rattle.grid.specs.Month.{Grid, cell_numbers, festival_numbers}

-- cells in whole weeks: blanks, so many days, and blanks to the week's end
pub record InWeeks (lead days : ℕ) (day : ℕ → List ℕ) (cells : List (List ℕ)) : Type 0 where
  pub whole : length cells % 7 ≡ 0
  pub count : length cells ≡ lead + days + to_fill (lead + days)
  pub before : take lead cells ≡ replicate lead blank
  pub each_day : (d : ℕ) → d < days → get_or cells (lead + d) blank ≡ day d
  pub after : drop (lead + days) cells ≡ replicate (to_fill (lead + days)) blank

-- the cells answered are those of the month, a multiple of seven, and they stand at the front of the buffer; and so do the festivals in theirs
pub record Written (g : Grid) (cells festivals : List ℕ) (r : Month) : Type 0 where
  pub whole : r.cells % 7 ≡ 0
  pub cells_at_front : take (r.cells * 12) cells ≡ cell_numbers g
  pub festivals_at_front : take (r.festivals * 2) festivals ≡ festival_numbers g

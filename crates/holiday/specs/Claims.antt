-- What is claimed of a holiday and the month's cell of the same date. Assumes nothing.
use Rattle.std.specs.Prelude.{ℕ, ◌+◌, ◌-◌, ◌*◌, ◌≡◌, Bool, List, get_or, take, drop, Ok}
use Rattle.paper.specs.Answers.{Answer}
use Rattle.gregorian.specs.Calendar.{weekday_of}
use Rattle.conversion.specs.Calendar.{Calendar, day_at}
use Rattle.grid.specs.Cells.{one}

-- the place, from 0, of the cell of day d of a month: as many cells stand before it as its first day has days before it in its week, and the days before d
abbrev pub place_of : Calendar → ℕ → ℕ → ℕ → ℕ
place_of c y m d = weekday_of (day_at c (y - c.first) (m - 1) 0) + (d - 1)

-- cell k, counted from 0, of cells that stand one after the other in a buffer
abbrev pub cell_in : List ℕ → ℕ → List ℕ
cell_in cells k = take 12 (drop (k * 12) cells)

-- the cell is that of day d, and its holiday number, the seventh, is what is answered: 1 for yes, 0 for no
pub record AsInCell (d : ℕ) (cell : List ℕ) (a : Answer Bool) : Type 0 where
  pub yes : Bool
  pub day : get_or cell 0 0 ≡ d
  pub answer : a ≡ Ok yes
  pub mark : get_or cell 6 0 ≡ one yes

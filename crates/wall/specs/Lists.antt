-- A line for each festival of a day, and of a month. Assumes nothing.
use Rattle.std.specs.Prelude.{ℕ, ◌+◌, ◌*◌, List, ◌++◌, get_or}
use Rattle.paper.specs.Sums.{sum}
use Rattle.text.specs.Quoted.{bytes}
use Rattle.wall.specs.Words.{word, weekdays}
use Rattle.wall.specs.Names.{name_text}
use Rattle.wall.specs.Columns.{space, repeated, two, short_date}
use Rattle.wall.specs.Cells.{num, marked}

-- 29  Sun Nov 15 and two spaces: the day of a cell
unfoldable pub day_of : List ℕ → ℕ → List ℕ
day_of cells i =
    two (num cells i 0) ++ (bytes "  " ++ (word 3 (num cells i 4) weekdays
    ++ (space ++ (short_date (num cells i 2) (num cells i 3) ++ bytes "  "))))

-- how many festivals the cells before cell i have: there the festivals of its day begin
unfoldable pub before : List ℕ → ℕ → ℕ
before cells i = sum (λ k. num cells k 11) i

-- the name of festival f, and whether it is a holiday: (holiday)
unfoldable pub festival_text : List ℕ → List ℕ → ℕ → List ℕ
festival_text names festivals f =
    name_text (get_or festivals (f * 2) 0) names
    ++ marked (get_or festivals (f * 2 + 1) 0) (bytes " (holiday)\n") (bytes "\n")

module _ (names cells festivals : List ℕ) where
  -- the line of festival f, a festival of cell i
  abbrev pub line_of : ℕ → ℕ → List ℕ
  line_of i f = day_of cells i ++ festival_text names festivals f

  -- the festivals of cell i
  unfoldable pub festivals_on : ℕ → List ℕ
  festivals_on i = repeated (line_of i) 1 (before cells i) (num cells i 11)

  -- of the first n cells
  abbrev pub festivals_of : ℕ → List ℕ
  festivals_of n = repeated festivals_on 1 0 n

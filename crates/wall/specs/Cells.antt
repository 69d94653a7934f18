-- A month's cells of twelve numbers in weeks from Sunday, each ten columns wide and four lines high. Assumes nothing.
use Rattle.std.specs.Prelude.{ℕ, ◌+◌, ◌*◌, cond, List, ◌++◌, eqb, get_or}
use Rattle.text.specs.Quoted.{bytes}
use Rattle.wall.specs.Columns.{repeated, two, clock, short_date}

-- number k of cell i: BS day; Gregorian year, month, day; weekday; today; holiday; tithi; tithi end; sunrise; sunset; festival count
abbrev pub num : List ℕ → ℕ → ℕ → ℕ
num cells i k = get_or cells (i * 12 + k) 0

-- a text where a number is not 0, another where it is
unfoldable pub marked : ℕ → List ℕ → List ℕ → List ℕ
marked n mark blank = cond (eqb n 0) blank mark

-- ---- the four lines of a day's cell

-- 29* Nov 15: the BS day, the mark of a holiday, the Gregorian day
unfoldable pub day_line : List ℕ → ℕ → List ℕ
day_line cells i = two (num cells i 0) ++ (marked (num cells i 6) (bytes "* ") (bytes "  ") ++ short_date (num cells i 2) (num cells i 3))

-- tithi  6<<: the tithi, the mark of today
unfoldable pub tithi_line : List ℕ → ℕ → List ℕ
tithi_line cells i = bytes "tithi "
    ++ (two (num cells i 7) ++ marked (num cells i 5) (bytes "<<") (bytes "  "))

-- rise 06:26 and set  17:12: a minute of the day behind a word
unfoldable pub sun_line : List ℕ → ℕ → List ℕ
sun_line label minute = label ++ clock minute

-- line k of a cell, counted from 0; padding, whose BS day is 0, is blank
unfoldable pub piece : ℕ → List ℕ → ℕ → List ℕ
piece k cells i =
    cond (eqb (num cells i 0) 0) (bytes "          ")
    (cond (eqb k 0) (day_line cells i)
    (cond (eqb k 1) (tithi_line cells i)
    (cond (eqb k 2) (sun_line (bytes "rise ") (num cells i 9))
    (sun_line (bytes "set  ") (num cells i 10)))))

-- ---- weeks

-- line k of a cell behind a bar
abbrev pub barred : ℕ → List ℕ → ℕ → List ℕ
barred k cells i = bytes "|" ++ piece k cells i

-- line k of the seven cells from i on, with a bar at the end
unfoldable pub row : ℕ → List ℕ → ℕ → List ℕ
row k cells i = repeated (barred k cells) 1 i 7 ++ bytes "|\n"

-- +---------- seven times and + at the end
unfoldable pub border : List ℕ
border = repeated (λ i. bytes "+----------") 1 0 7 ++ bytes "+\n"

-- the four lines of the seven cells from i on, and the line below them
unfoldable pub week : List ℕ → ℕ → List ℕ
week cells i = row 0 cells i ++ (row 1 cells i ++ (row 2 cells i ++ (row 3 cells i ++ border)))

-- so many weeks
abbrev pub weeks_of : List ℕ → ℕ → List ℕ
weeks_of cells n = repeated (week cells) 7 0 n

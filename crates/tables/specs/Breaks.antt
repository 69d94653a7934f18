-- Where a table first breaks a rule: the lines of the year table (docs/RULES.md, What is lent) one by one. Assumes nothing.
use Rattle.std.specs.Prelude.{ℕ, zero, suc, ◌+◌, cond, List, ◌==◌, nat_lt, None, Option, Some, Ok, Err}
use Rattle.paper.specs.Sums.{sum}
use Rattle.paper.specs.Answers.{Answer}
use Rattle.gregorian.specs.Answers.{number_answer}
use Rattle.conversion.specs.declared.Table.{Table}
use Rattle.conversion.specs.Flat.{row_count, lens, len_ok, first_day, accepted}
use Rattle.tables.specs.declared.broken.Broken.{Broken}
use Rattle.tables.specs.declared.broken.Broken.TheVariants as B

-- ---- a row

-- of the k months from m on, the first whose length is not 29 to 32, counted from 0; else 12 where the sum is another
unfoldable pub column_from : List ℕ → ℕ → ℕ → ℕ → Option ℕ
column_from rows i zero m = cond (lens rows i 12 == sum (lens rows i) 12) None (Some 12)
column_from rows i (suc k) m = cond (len_ok rows i m) (column_from rows i k (m + 1)) (Some m)

-- the first column of row i that breaks a rule
abbrev pub column : List ℕ → ℕ → Option ℕ
column rows i = column_from rows i 12 0

-- a column of row i that breaks a rule, with the number there, or else the other
abbrev pub celled : List ℕ → ℕ → Option ℕ → Broken → Broken
celled rows i (Some m) other = B.Cell i m (lens rows i m)
celled rows i None other = other

-- the first of the k rows from i on that breaks a rule, with its column and the number there; else the last day is too late
unfoldable pub row_from : List ℕ → ℕ → ℕ → Broken
row_from rows zero i = B.LastDay
row_from rows (suc k) i = celled rows i (column rows i) (row_from rows k (i + 1))

-- ---- a table

-- no such first day, or one before 1901, or else the other
abbrev pub dated : Answer ℕ → Broken → Broken
dated (Err k) other = B.NoDate
dated (Ok n) other = cond (nat_lt n 2415386) B.FirstDay other

-- the first line that a table breaks which breaks one: the first year, the number of rows, the first day, the rows, the last day
unfoldable pub place : Table → List ℕ → Broken
place t rows =
    cond (nat_lt t.first_year 1) B.FirstYear
    (cond (nat_lt 3000 t.first_year) B.FirstYear
    (cond (nat_lt (row_count rows) 1) B.NoRow
    (cond (nat_lt 128 (row_count rows)) B.ManyRows
    (dated (number_answer (first_day t)) (row_from rows (row_count rows) 0)))))

-- none exactly where the table is accepted
unfoldable pub first_broken : Table → List ℕ → Option Broken
first_broken t rows = cond (accepted t rows) None (Some (place t rows))

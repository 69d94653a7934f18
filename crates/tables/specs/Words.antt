-- What is wrong with a year table, in words. Assumes nothing.
use Rattle.std.specs.Prelude.{ℕ, ◌+◌, ◌%◌, ◌^◌, cond, List, ◌++◌, nat_lt, None, Option, Some}
use Rattle.text.specs.Digits.{digits}
use Rattle.text.specs.Quoted.{bytes}
use Rattle.conversion.specs.declared.Table.{Table}
use Rattle.tables.specs.declared.broken.Broken.{Broken}
use Rattle.tables.specs.declared.broken.Broken.TheVariants as broken

-- a sum in 64 bits, which no table's rows and years leave
abbrev pub plus : ℕ → ℕ → ℕ
plus a b = (a + b) % 2 ^ 64

-- row 5, BS 2004: the row with four before it
unfoldable pub row_text : Table → ℕ → List ℕ
row_text t i = bytes "row " ++ (digits (plus i 1) ++ (bytes ", BS " ++ digits (plus t.first_year i)))

-- the month with m before it has so many days
unfoldable pub month_text : ℕ → ℕ → List ℕ
month_text m days = bytes ": month " ++ (digits (plus m 1) ++ (bytes " has " ++ (digits days ++ bytes " days, expected 29 to 32")))

-- the sum of a row is another
unfoldable pub sum_text : ℕ → List ℕ
sum_text n = bytes ": the thirteenth number " ++ (digits n ++ bytes " is not the sum of the twelve before it")

-- column m of row i, a month or the sum, and the number that stands there
unfoldable pub cell_text : Table → ℕ → ℕ → ℕ → List ℕ
cell_text t i m n = row_text t i ++ cond (nat_lt m 12) (month_text m n) (sum_text n)

-- the first year
unfoldable pub year_text : ℕ → List ℕ
year_text year = bytes "the first BS year is " ++ (digits year ++ bytes ", expected 1 to 3000")

-- the first day by its three numbers, 1943-4-31
unfoldable pub first_day_text : Table → List ℕ
first_day_text t = digits t.year ++ (bytes "-" ++ (digits t.month ++ (bytes "-" ++ digits t.day)))

-- what is wrong with it
unfoldable pub day_text : Table → List ℕ → List ℕ
day_text t wrong = bytes "the first day " ++ (first_day_text t ++ wrong)

-- the first rule that a table breaks
unfoldable pub rule_text : Table → Broken → List ℕ
rule_text t broken.FirstYear = year_text t.first_year
rule_text t broken.NoRow = bytes "there is no row"
rule_text t broken.ManyRows = bytes "there are more than 128 rows"
rule_text t broken.NoDate = day_text t (bytes " is no Gregorian date")
rule_text t broken.FirstDay = day_text t (bytes " is before 1901-01-01")
rule_text t (broken.Cell i m n) = cell_text t i m n
rule_text t broken.LastDay = bytes "the last day is after 2099-12-31"

-- why a table is refused: the first rule that it breaks, or else that its numbers are no rows
abbrev pub fault_text : Table → Option Broken → List ℕ
fault_text t (Some b) = rule_text t b
fault_text t None = bytes "its numbers are no whole rows"

-- the refusal behind what names the table
unfoldable pub refusal_text : Table → Option Broken → List ℕ
refusal_text t b = bytes ": refused with 1: " ++ (fault_text t b ++ bytes "\n")

-- the first row that the longer table has not as the shorter has it
unfoldable pub change_text : Table → ℕ → List ℕ
change_text t i = bytes "NEW: not OLD with rows added: " ++ (row_text t i ++ bytes " is another or missing\n")

-- the second table has only so many of the first one's rows
unfoldable pub rows_text : ℕ → ℕ → List ℕ
rows_text few all =
    bytes "NEW: only the first " ++ (digits few ++ (bytes " of the " ++ (digits all ++ bytes " rows of OLD: the two files look exchanged; run ")))

-- that, and the command with the two files exchanged
unfoldable pub exchanged_text : ℕ → ℕ → List ℕ → List ℕ → List ℕ
exchanged_text few all old new = rows_text few all ++ (bytes "./patro spring " ++ (new ++ (bytes " " ++ (old ++ bytes "\n"))))

-- What is told of a table once it was read: in which line it breaks a rule, and which row's comment says another year. Assumes nothing.
use Rattle.std.specs.Prelude.{ℕ, ◌+◌, ◌-◌, ◌%◌, ◌^◌, Bool, false, cond, not, ◌&&◌, List, [], ◌∷◌, ◌++◌, ◌==◌, None, Option, Some, is_some}
use Rattle.text.specs.Digits.{digits}
use Rattle.text.specs.Quoted.{bytes}
use Rattle.fields.specs.Line.{blank, year_said}
use Rattle.tables.specs.declared.broken.Broken.{Broken}
use Rattle.tables.specs.declared.broken.Broken.TheVariants as broken
use Rattle.files.specs.declared.telling.Sought.{Sought}
use Rattle.files.specs.declared.telling.Sought.TheVariants as sought
use Rattle.files.specs.declared.telling.Place.{Place}

-- ---- lines that have a word: a table's first line and its rows

-- a sum in 64 bits, which no file's lines leave
abbrev pub plus : ℕ → ℕ → ℕ
plus a b = (a + b) % 2 ^ 64

-- how many of them come before the one in which a table of so many rows breaks a rule: none before its first line, one and the rows before a row
abbrev pub table_line : Option Broken → ℕ → ℕ
table_line None rows = 0
table_line (Some broken.FirstYear) rows = 0
table_line (Some broken.NoRow) rows = 0
table_line (Some broken.ManyRows) rows = 129
table_line (Some broken.NoDate) rows = 0
table_line (Some broken.FirstDay) rows = 0
table_line (Some (broken.Cell i m n)) rows = plus i 1
table_line (Some broken.LastDay) rows = rows

-- the BS year of the row that so many of them come before, of which the first is no row
unfoldable pub year_of : ℕ → ℕ → ℕ
year_of first before = cond (before == 0) 0 (plus first (before - 1))

-- ---- what is sought

-- a row's comment says another year than the row has
abbrev pub other_year : ℕ → ℕ → Option ℕ → Bool
other_year first before (Some n) = not (before == 0) && not (n == year_of first before)
other_year first before None = false

-- a line with a word is the one sought, by how many come before it and the year that it says
abbrev pub meets : Sought → ℕ → Option ℕ → Bool
meets (sought.Line n) before said = before == n
meets (sought.OtherYear first) before said = other_year first before said

-- before the first line
abbrev pub nowhere : Place
nowhere = record { line = 0; before = 0; found = None }

-- the next line looked at: it may have no word, be the one sought or be another
unfoldable pub looked_at : Sought → Place → List ℕ → Place
looked_at w p s =
    cond (blank s) (record { line = plus p.line 1; before = p.before; found = None })
    (cond (meets w p.before (year_said s)) (record { line = plus p.line 1; before = p.before; found = Some (year_said s) })
    (record { line = plus p.line 1; before = plus p.before 1; found = None }))

-- lines looked at, the first first, until one is the one sought
abbrev pub looked : Sought → Place → List (List ℕ) → Place
looked w p [] = p
looked w p (s ∷ ls) = cond (is_some p.found) p (looked w (looked_at w p s) ls)

-- ---- the words

-- data/owner.table: line 8, or the file alone where the line was not found
unfoldable pub place_text : List ℕ → Place → List ℕ
place_text path p = cond (is_some p.found) (path ++ (bytes ": line " ++ digits p.line)) path

-- the year that a comment says, and that of its row
unfoldable pub years_text : ℕ → ℕ → List ℕ
years_text said year = bytes ": the comment says " ++ (digits said ++ (bytes ", the row is BS " ++ (digits year ++ bytes "\n")))

-- the year that the comment at a place says, 0 where it says none
abbrev pub said_at : Option (Option ℕ) → ℕ
said_at (Some (Some n)) = n
said_at (Some None) = 0
said_at None = 0

-- warning: data/owner.table: line 8: the comment says 2005, the row is BS 2004
unfoldable pub warning_text : List ℕ → Place → ℕ → List ℕ
warning_text path p year = bytes "warning: " ++ (place_text path p ++ years_text (said_at p.found) year)

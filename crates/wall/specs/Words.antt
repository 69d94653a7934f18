-- Lines of a text, and the words for months and weekdays. Assumes nothing.
use Rattle.std.specs.Prelude.{ℕ, zero, suc, cond, List, [], ◌∷◌, eqb}
use Rattle.text.specs.Fronts.{up_to}
use Rattle.text.specs.Quoted.{bytes}

-- ---- lines of a text; a line feed is 10

-- what stands behind a text's first line
abbrev pub next_line : List ℕ → List ℕ
next_line [] = []
next_line (x ∷ s) = cond (eqb x 10) s (next_line s)

-- from line k on, counted from 0
abbrev pub line_from : ℕ → List ℕ → List ℕ
line_from zero s = s
line_from (suc k) s = line_from k (next_line s)

-- at most so many bytes of line k
unfoldable pub word : ℕ → ℕ → List ℕ → List ℕ
word most k s = up_to 10 most (line_from k s)

-- ---- the words, a line for each; a month's number counts from 1

-- Sunday, Monday, .., Saturday
unfoldable pub weekdays : List ℕ
weekdays = bytes "Sunday\nMonday\nTuesday\nWednesday\nThursday\nFriday\nSaturday\n"

-- an empty line, January, February, .., December
unfoldable pub gregorian_months : List ℕ
gregorian_months = bytes "\nJanuary\nFebruary\nMarch\nApril\nMay\nJune\nJuly\nAugust\nSeptember\nOctober\nNovember\nDecember\n"

-- an empty line, Baishakh, Jestha, Ashadh, Shrawan, Bhadra, Ashwin, Kartik, Mangsir, Poush, Magh, Falgun, Chaitra
unfoldable pub bs_months : List ℕ
bs_months = bytes "\nBaishakh\nJestha\nAshadh\nShrawan\nBhadra\nAshwin\nKartik\nMangsir\nPoush\nMagh\nFalgun\nChaitra\n"

-- The table of the checked examples (docs/RULES.md): first year 100, first day 1 January 1950. Assumes nothing.
use Rattle.std.specs.Prelude.{ℕ, List, [], ◌∷◌, ◌++◌}
use Rattle.conversion.specs.declared.Table.{Table}
use Rattle.conversion.specs.Calendar.{Calendar}
use Rattle.conversion.specs.Flat.{flat}

abbrev pub own_table : Table
own_table = record { first_year = 100; year = 1950; month = 1; day = 1 }

abbrev pub first_row : List ℕ
first_row = 31 ∷ 31 ∷ 32 ∷ 31 ∷ 31 ∷ 31 ∷ 30 ∷ 29 ∷ 30 ∷ 29 ∷ 30 ∷ 30 ∷ 365 ∷ []

abbrev pub second_row : List ℕ
second_row = 31 ∷ 31 ∷ 32 ∷ 32 ∷ 31 ∷ 30 ∷ 30 ∷ 29 ∷ 30 ∷ 29 ∷ 30 ∷ 31 ∷ 366 ∷ []

abbrev pub own_rows : List ℕ
own_rows = first_row ++ second_row

abbrev pub own : Calendar
own = flat own_table own_rows

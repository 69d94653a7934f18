-- Lists of a few rules and what is told of one of them, to be followed by eye: in the file `f`, with texts for the names 1 and 2, over the table of
-- docs/RULES.md, in which month 12 of BS 100 has 30 days. Assumes nothing.
use Rattle.std.specs.Prelude.{ℕ, ◌≡◌, List, [], ◌∷◌, ◌++◌, Some, None}
use Prim.Native.String.{String}
use Rattle.text.specs.Quoted.{bytes}
use Rattle.conversion.specs.Own.{own}
use Rattle.warnings.specs.Words.{warnings_text}

-- of rule number j, from 0 on
abbrev pub Tells : List ℕ → ℕ → String → Type 0
Tells rules j s = warnings_text (bytes "f") rules j (Some (bytes "1=New Year\n2=Holi\n")) own ≡ bytes s

-- name 1 on a fixed date, and on another
abbrev pub new_year : List ℕ
new_year = 1 ∷ 0 ∷ 1 ∷ 1 ∷ 0 ∷ 0 ∷ 1 ∷ 1 ∷ []

abbrev pub day_after : List ℕ
day_after = 1 ∷ 0 ∷ 1 ∷ 2 ∷ 0 ∷ 0 ∷ 1 ∷ 1 ∷ []

-- name 2 and name 3, computed
abbrev pub holi : List ℕ
holi = 3 ∷ 0 ∷ 11 ∷ 15 ∷ 0 ∷ 3 ∷ 2 ∷ 1 ∷ []

abbrev pub unnamed : List ℕ
unnamed = 3 ∷ 0 ∷ 11 ∷ 1 ∷ 0 ∷ 0 ∷ 3 ∷ 0 ∷ []

-- a date given in BS 100 to a name, in month 12
abbrev pub given : ℕ → ℕ → List ℕ
given day name = 4 ∷ 100 ∷ 12 ∷ day ∷ 0 ∷ 0 ∷ name ∷ 1 ∷ []

pub record Examples : Type 0 where
  -- a list of three rules without a warning, the last of them a date given on its month's last day; and past the list's end
  pub first_good : Tells (new_year ++ holi ++ given 30 2) 0 ""
  pub second_good : Tells (new_year ++ holi ++ given 30 2) 1 ""
  pub third_good : Tells (new_year ++ holi ++ given 30 2) 2 ""
  pub past_end : Tells (new_year ++ holi ++ given 30 2) 3 ""
  -- the second of two that are the same, and not the first
  pub twice : Tells (new_year ++ new_year) 1 "warning: f, line 9: rule 2 (lines 9 to 16) is the same as rule 1 (lines 1 to 8)\n"
  pub not_first : Tells (new_year ++ new_year) 0 ""
  pub shared : Tells (new_year ++ day_after) 1
      "warning: f, line 15: rule 2 (lines 9 to 16) has name 1, which rule 1 (lines 1 to 8), another festival, has too\n"
  -- at the first rule with the name alone
  pub no_text : Tells (unnamed ++ given 30 3) 0 "warning: f, line 7: rule 1 (lines 1 to 8) has name 3, which has no text in the file of names\n"
  pub told_once : Tells (unnamed ++ given 30 3) 1 ""
  pub no_day_law : Tells (given 31 2) 0
      "warning: f, line 4: rule 1 (lines 1 to 8) gives day 31, but month 12 of BS 100 has 30 days: it shows nothing and still silences its name\n"
  -- by a rule that comes later
  pub beside : Tells (given 30 1 ++ new_year) 0
      "warning: f, line 7: rule 1 (lines 1 to 8) has name 1, which rule 2 (lines 9 to 16) has on a fixed date: both show\n"
  -- without names none lacks its text
  pub no_names : warnings_text (bytes "f") unnamed 0 None own ≡ []

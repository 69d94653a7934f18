-- The warnings of a rule, in words. Assumes nothing.
use Rattle.std.specs.Prelude.{ℕ, ◌/◌, cond, List, [], ◌++◌, leb, length, Option, Some, None}
use Rattle.text.specs.Digits.{digits}
use Rattle.text.specs.Quoted.{bytes}
use Rattle.conversion.specs.Calendar.{Calendar}
use Rattle.rules.specs.declared.Rule.{Rule}
use Rattle.rules.specs.Rules.{rule_at, rules_from, rules_of}
use Rattle.faults.specs.Words.{line_of, lines_text, line_text}
use Rattle.warnings.specs.declared.finding.Warning.{Warning}
use Rattle.warnings.specs.declared.finding.Warning.TheVariants as warning
use Rattle.warnings.specs.Warnings.{twice, shared, no_text, no_day, beside}

-- ---- one warning

-- which of the rule's eight lines is told: the first for a rule that is there twice, that of its day, or that of its name
abbrev pub line_in : Warning → ℕ
line_in (warning.Twice i) = 1
line_in (warning.Shared name i) = 7
line_in (warning.NoText name) = 7
line_in (warning.NoDay r n) = 4
line_in (warning.Beside name i) = 7

-- words and a number
unfoldable pub labelled : List ℕ → ℕ → List ℕ
labelled label n = label ++ digits n

-- has name 34, which
unfoldable pub name_text : ℕ → List ℕ
name_text name = labelled (bytes " has name ") name ++ bytes ", which "

-- gives day 32, but month 12 of BS 2085
unfoldable pub date_text : Rule → List ℕ
date_text r = labelled (bytes " gives day ") r.day ++ (labelled (bytes ", but month ") r.month ++ labelled (bytes " of BS ") r.year)

-- gives day 32, but month 12 of BS 2085 has 31 days: it shows nothing and still silences its name
unfoldable pub day_text : Rule → ℕ → List ℕ
day_text r n =
    date_text r ++ (labelled (bytes " has ") n ++ bytes " days: it shows nothing and still silences its name")

-- what is said behind the rule's number and lines
unfoldable pub what_text : Warning → List ℕ
what_text (warning.Twice i) = bytes " is the same as " ++ lines_text i
what_text (warning.Shared name i) = name_text name ++ (lines_text i ++ bytes ", another festival, has too")
what_text (warning.NoText name) = name_text name ++ bytes "has no text in the file of names"
what_text (warning.NoDay r n) = day_text r n
what_text (warning.Beside name i) = name_text name ++ (lines_text i ++ bytes " has on a fixed date: both show")

-- warning: new.rules, line 95: rule 12 (lines 89 to 96) has name 34, which rule 3 (lines 17 to 24), another festival, has too
unfoldable pub warning_text : List ℕ → ℕ → Warning → List ℕ
warning_text path j w = bytes "warning: " ++ (line_text path (line_of j (line_in w)) ++ (lines_text j ++ (what_text w ++ bytes "\n")))

-- a warning's line, and nothing where there is none
abbrev pub told_text : List ℕ → ℕ → Option Warning → List ℕ
told_text path j None = []
told_text path j (Some w) = warning_text path j w

-- ---- the warnings of rule number j

-- of a rule r that others come before
unfoldable pub rule_text : List ℕ → ℕ → List Rule → List Rule → Option (List ℕ) → Calendar → Rule → List ℕ
rule_text path j before rules names c r =
    told_text path j (twice before r) ++ (told_text path j (shared before r) ++ (told_text path j (no_text names before r)
    ++ (told_text path j (no_day c r) ++ told_text path j (beside rules r))))

-- in a list of numbers, which may end before it
unfoldable pub warnings_text : List ℕ → List ℕ → ℕ → Option (List ℕ) → Calendar → List ℕ
warnings_text path xs j names c =
    cond (leb (length xs / 8) j) [] (rule_text path j (rules_from xs 0 j) (rules_of xs) names c (rule_at xs j))

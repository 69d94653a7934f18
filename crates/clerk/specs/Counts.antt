-- How many rules of each kind there are, a line for each. Assumes nothing.
use Rattle.std.specs.Prelude.{ℕ, List, ◌++◌}
use Rattle.text.specs.Digits.{digits}
use Rattle.text.specs.Quoted.{bytes}
use Rattle.rules.specs.declared.Rule.{Rule}
use Rattle.rules.specs.Rules.{count_kind}

-- kind 3, computed: 48
unfoldable pub count_text : List ℕ → ℕ → List Rule → List ℕ
count_text label k rules = label ++ (digits (count_kind k rules) ++ bytes "\n")

unfoldable pub counts_text : List Rule → List ℕ
counts_text rules =
    count_text (bytes "kind 1, fixed BS date: ") 1 rules ++ (count_text (bytes "kind 2, fixed Gregorian date: ") 2 rules
    ++ (count_text (bytes "kind 3, computed: ") 3 rules ++ count_text (bytes "kind 4, given for one BS year: ") 4 rules))

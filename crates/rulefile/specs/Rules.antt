-- The file of some rules, rule by rule. Assumes nothing.
use Rattle.std.specs.Prelude.{ℕ, ◌≤◌, List, [], ◌∷◌, ◌++◌}
use Rattle.text.specs.Quoted.{bytes}
use Rattle.keyed.specs.Lines.{line_text}
use Rattle.rules.specs.declared.Rule.{Rule}

-- the eight lines of a rule, and those of all rules one after the other
abbrev pub rule_text : Rule → List ℕ
rule_text r =
    line_text (bytes "kind") r.kind
    ++ line_text (bytes "year") r.year
    ++ line_text (bytes "month") r.month
    ++ line_text (bytes "day") r.day
    ++ line_text (bytes "half") r.half
    ++ line_text (bytes "kala") r.kala
    ++ line_text (bytes "name") r.name
    ++ line_text (bytes "holiday") r.holiday

abbrev pub rules_text : List Rule → List ℕ
rules_text [] = []
rules_text (r ∷ rs) = rule_text r ++ rules_text rs

-- the numbers of a rule, and those of all rules
abbrev pub fields : Rule → List ℕ
fields r = r.kind ∷ r.year ∷ r.month ∷ r.day ∷ r.half ∷ r.kala ∷ r.name ∷ r.holiday ∷ []

abbrev pub flat : List Rule → List ℕ
flat [] = []
flat (r ∷ rs) = fields r ++ flat rs

-- each number is at most 65,535
abbrev pub Small : List ℕ → Type 0
Small [] = Unit {0}
Small (n ∷ ns) = (n ≤ 65535) × Small ns

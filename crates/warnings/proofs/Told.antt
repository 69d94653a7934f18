-- The lines of the five warnings of a rule, one after the other. Assumes nothing.
use Prim.Native.Nat.{ℕ, ◌/◌, ◌≤◌, ◌<◌}
use mathlib.Core.Path.{◌≡◌}
use Rattle.std.specs.Prelude.{Option}
use mathlib.Core.List.{List, [], ◌++◌}
use lib.ListN.{length}
use borrow.Author.Tests.{le-leb, lt-leb}
use Rattle.conversion.specs.Calendar.{Calendar}
use Rattle.rules.specs.declared.Rule.{Rule}
use Rattle.rules.specs.Rules.{rule_at, rules_from, rules_of}
use Rattle.warnings.specs.declared.finding.Warning.{Warning}
use Rattle.warnings.specs.Warnings.{twice, shared, no_text, no_day, beside}
use Rattle.warnings.specs.Words.{told_text, rule_text, warnings_text}

module _ (path xs : List ℕ) (j : ℕ) (names : Option (List ℕ)) (c : Calendar) where
  -- the list ends before the rule
  pub told_none : length xs / 8 ≤ j → warnings_text path xs j names c ≡ []
  unfolding warnings_text
  told_none h = rw (le-leb (length xs / 8) j h)

  pub told_five : j < length xs / 8 → {r : Rule} → r ≡ rule_at xs j → {a b d e f : Option Warning} → a ≡ twice (rules_from xs 0 j) r → b ≡ shared (rules_from xs 0 j) r
      → d ≡ no_text names (rules_from xs 0 j) r → e ≡ no_day c r → f ≡ beside (rules_of xs) r
      → warnings_text path xs j names c ≡ told_text path j a ++ (told_text path j b ++ (told_text path j d ++ (told_text path j e ++ told_text path j f)))
  unfolding warnings_text rule_text
  told_five h er ea eb ed ee ef = rw (ea, eb, ed, ee, ef, er, lt-leb (length xs / 8) j h)

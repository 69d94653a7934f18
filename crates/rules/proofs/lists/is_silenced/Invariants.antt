use mathlib.Core.Path.{◌≡◌}
use mathlib.Core.Bool.{◌||◌}
use Prim.Native.Nat.{◌-◌}
use Rattle.rules.specs.Rules.{rules_from}
use Rattle.rules.specs.Festivals.{silenced}
use Rattle.rules.proofs.lists.is_silenced.Given as goal

abbrev pub invariant-loop-i : goal.invariant-loop-i
invariant-loop-i l = (l.found || silenced (rules_from l.rules l.i (l.n - l.i)) l.year l.name) ≡ silenced (rules_from l.rules 0 l.n) l.year l.name

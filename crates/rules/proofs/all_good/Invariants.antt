use mathlib.Core.Path.{◌≡◌}
use mathlib.Core.Bool.{◌&&◌}
use Prim.Native.Nat.{◌-◌}
use Rattle.rules.specs.Rules.{rules_from, all_good}
use Rattle.rules.proofs.all_good.Given as goal

abbrev pub invariant-loop-i : goal.invariant-loop-i
invariant-loop-i l = (l.good && all_good (rules_from l.rules l.i (l.n - l.i))) ≡ all_good (rules_from l.rules 0 l.n)

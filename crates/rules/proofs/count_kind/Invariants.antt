use mathlib.Core.Path.{◌≡◌}
use Prim.Native.Nat.{◌+◌, ◌-◌, ◌≤◌}
use Rattle.rules.specs.Rules.{rules_from, count_kind}
use Rattle.rules.proofs.count_kind.Given as goal

abbrev pub invariant-loop-i : goal.invariant-loop-i
invariant-loop-i l = (l.count ≤ l.i) × (l.count + count_kind l.k (rules_from l.rules l.i (l.n - l.i)) ≡ count_kind l.k (rules_from l.rules 0 l.n))

use Rattle.std.proofs.Common.{◌≡◌, ◌+◌, ◌-◌, ◌/◌, ◌≤◌, length}
use Rattle.rules.specs.Rules.{rules_from, rules_of, count_kind}
use Rattle.clerk.proofs.count_kind.Given as goal

abbrev pub invariant-loop-i : goal.invariant-loop-i
invariant-loop-i l = (l.count ≤ l.i) × (l.count + count_kind l.k (rules_from l.rules l.i (length l.rules / 8 - l.i)) ≡ count_kind l.k (rules_of l.rules))

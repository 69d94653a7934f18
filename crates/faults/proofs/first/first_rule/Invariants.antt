use Rattle.std.proofs.Common.{◌≡◌, ◌-◌, ◌/◌, length}
use Rattle.rules.specs.Rules.{rules_from, rules_of}
use Rattle.faults.specs.Faults.{first_from}
use Rattle.faults.proofs.first.first_rule.Given as goal

abbrev pub invariant-loop-i : goal.invariant-loop-i
invariant-loop-i l = first_from (rules_from l.rules l.i (length l.rules / 8 - l.i)) l.i ≡ first_from (rules_of l.rules) 0

use Rattle.std.proofs.Common.{◌≡◌, ◌-◌, ◌/◌, length}
use Rattle.rules.specs.Rules.{rules_from, rules_of}
use Rattle.faults.specs.Faults.{over_from}
use Rattle.faults.proofs.first.one_over.Given as goal

abbrev pub invariant-loop-i : goal.invariant-loop-i
invariant-loop-i l =
    over_from l.kind l.left (rules_from l.rules l.i (length l.rules / 8 - l.i)) l.i ≡ over_from l.kind l.allowed (rules_of l.rules) 0

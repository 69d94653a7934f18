use Rattle.std.proofs.Common.{◌≡◌, ◌-◌}
use Rattle.rules.specs.Rules.{rules_from}
use Rattle.warnings.specs.Warnings.{first_like}
use Rattle.warnings.proofs.search.first_like.Given as goal

abbrev pub invariant-loop-i : goal.invariant-loop-i
invariant-loop-i l = first_like l.how l.r (rules_from l.rules l.i (l.n - l.i)) l.i ≡ first_like l.how l.r (rules_from l.rules 0 l.n) 0

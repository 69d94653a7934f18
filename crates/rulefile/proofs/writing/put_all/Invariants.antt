use Rattle.std.proofs.Common.{drop}
use Rattle.keyed.proofs.Walks.{Laid}
use Rattle.rulefile.specs.Files.{rule_form}
use Rattle.rulefile.proofs.writing.put_all.Given as goal

abbrev pub invariant-loop-i : goal.invariant-loop-i
invariant-loop-i l = Laid rule_form 0 l.rules l.initial.out l.out l.at l.i (drop l.i l.rules)

use Rattle.std.proofs.Common.{length, ◌-◌}
use Rattle.keyed.proofs.Walks.{Ahead}
use Rattle.rulefile.specs.Files.{rule_form}
use Rattle.rulefile.proofs.reading.read_all.Given as goal

abbrev pub invariant-loop-n : goal.invariant-loop-n
invariant-loop-n l = Ahead rule_form 0 l.s l.initial.numbers l.numbers l.c.at l.i l.i

abbrev pub decreases-loop-n : goal.decreases-loop-n
decreases-loop-n l = length l.s - l.c.at

use lib.ListN.{drop}
use Rattle.output.specs.Gathered.{gathered, joins}
use Rattle.output.proofs.Joins.{Rest}
use Rattle.output.proofs.Out.join_all.Given as goal

abbrev pub invariant-loop-b : goal.invariant-loop-b
invariant-loop-b l = Rest (joins (gathered l.initial.buffer l.initial.o) l.text) (drop l.b-index l.text) l.buffer l.o

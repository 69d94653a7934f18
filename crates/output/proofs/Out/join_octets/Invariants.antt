use lib.ListN.{drop}
use Rattle.output.specs.Gathered.{gathered, joins}
use Rattle.output.specs.Octets.{octets_text}
use Rattle.output.proofs.Joins.{Rest}
use Rattle.output.proofs.Out.join_octets.Given as goal

abbrev pub invariant-loop-b : goal.invariant-loop-b
invariant-loop-b l = Rest (joins (gathered l.initial.buffer l.initial.o) (octets_text l.list)) (octets_text (drop l.b-index l.list)) l.buffer l.o

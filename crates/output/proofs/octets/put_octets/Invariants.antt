use lib.ListN.{drop}
use Rattle.output.specs.Octets.{octets_text}
use Rattle.output.proofs.Joins.{Ahead}
use Rattle.output.proofs.octets.put_octets.Given as goal

abbrev pub invariant-loop-b : goal.invariant-loop-b
invariant-loop-b l = Ahead l.initial.out l.from (octets_text l.list) l.out l.at (octets_text (drop l.b-index l.list))

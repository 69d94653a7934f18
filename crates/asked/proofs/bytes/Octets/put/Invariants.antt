use Rattle.text.specs.Written.{Wrote}
use Rattle.asked.specs.Octets.{first_of}
use Rattle.asked.proofs.bytes.Octets.put.Given as goal

abbrev pub invariant-loop-i : goal.invariant-loop-i
invariant-loop-i l = Wrote l.initial.out l.from (first_of l.self l.i) l.out l.at

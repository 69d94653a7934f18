use Rattle.text.specs.Written.{Wrote}
use Rattle.lending.specs.Lending.{numbers_of}
use Rattle.lending.proofs.append.Given as goal

abbrev pub invariant-loop-i : goal.invariant-loop-i
invariant-loop-i l = Wrote l.initial.list l.from (numbers_of l.w l.i) l.list l.at

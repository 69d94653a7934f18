use mathlib.Core.Path.{◌≡◌}
use Rattle.lending.specs.Lending.{ones, numbers_in}
use Rattle.lending.proofs.count_of.Given as goal

abbrev pub invariant-loop-n : goal.invariant-loop-n
invariant-loop-n l = (l.ones ≡ ones l.n) × (numbers_in l.form l.n ≡ 0)

use mathlib.Core.Path.{◌≡◌}
use mathlib.Core.Bool.{true}
use Rattle.paper.specs.Sums.{all}
use Rattle.conversion.specs.Flat.{row_ok}
use Rattle.conversion.specs.Inner.{passed}
use Rattle.conversion.proofs.check.pass.Given as goal

abbrev pub invariant-loop-i : goal.invariant-loop-i
invariant-loop-i l = (all (row_ok l.rows) l.i ≡ true) × (l.p ≡ passed l.rows l.i l.until l.day)

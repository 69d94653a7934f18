use Prim.Native.Nat.{◌+◌}
use mathlib.Core.Path.{◌≡◌}
use Rattle.paper.specs.Sums.{sum}
use Rattle.conversion.specs.Inner.{column}
use Rattle.conversion.proofs.columns.find.Given as goal

abbrev pub invariant-loop-i : goal.invariant-loop-i
invariant-loop-i l = sum (column l.rows l.at l.step) l.i + l.rest ≡ l.day

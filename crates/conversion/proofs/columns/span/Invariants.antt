use Prim.Native.Nat.{◌*◌, ◌≤◌}
use mathlib.Core.Path.{◌≡◌}
use Rattle.paper.specs.Sums.{sum}
use Rattle.conversion.specs.Inner.{column}
use Rattle.conversion.proofs.columns.span.Given as goal

abbrev pub invariant-loop-i : goal.invariant-loop-i
invariant-loop-i l = (l.total ≡ sum (column l.rows l.at l.step) l.i) × (l.total ≤ 65535 * l.i)

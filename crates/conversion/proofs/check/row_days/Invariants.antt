use Prim.Native.Nat.{◌*◌, ◌≤◌}
use mathlib.Core.Path.{◌≡◌}
use Rattle.paper.specs.Sums.{sum, all}
use Rattle.conversion.specs.Flat.{len_ok}
use Rattle.conversion.proofs.Rows.{low}
use Rattle.conversion.proofs.check.row_days.Given as goal

abbrev pub invariant-loop-m : goal.invariant-loop-m
invariant-loop-m l = (l.good ≡ all (len_ok l.rows l.i) l.m) × (l.days ≡ sum (low l.rows l.i) l.m) × (l.days ≤ 63 * l.m)

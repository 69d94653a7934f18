use Rattle.std.proofs.Common.{◌≡◌, ◌-◌, ◌*◌, ◌≤◌}
use Rattle.paper.specs.Sums.{sum}
use Rattle.conversion.specs.Flat.{lens}
use Rattle.tables.specs.Breaks.{column_from, column}
use Rattle.tables.proofs.broken.column_of.Given as goal

abbrev pub invariant-loop-m : goal.invariant-loop-m
invariant-loop-m l = (l.days ≡ sum (lens l.rows l.i) l.m) × (l.days ≤ 32 * l.m) × (column_from l.rows l.i (12 - l.m) l.m ≡ column l.rows l.i)

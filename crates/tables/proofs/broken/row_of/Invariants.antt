use Rattle.std.proofs.Common.{◌≡◌, ◌-◌}
use Rattle.tables.specs.Breaks.{row_from}
use Rattle.tables.proofs.broken.row_of.Given as goal

abbrev pub invariant-loop-i : goal.invariant-loop-i
invariant-loop-i l = row_from l.rows (l.n - l.i) l.i ≡ row_from l.rows l.n 0

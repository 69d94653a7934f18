use Prim.Native.Nat.{◌*◌, ◌-◌}
use mathlib.Core.Path.{◌≡◌}
use lib.ListN.{length}
use Rattle.wall.specs.Columns.{repeated}
use Rattle.wall.specs.Cells.{week, weeks_of}
use Rattle.wall.proofs.Going.{Going}
use Rattle.wall.proofs.cells.put_weeks.Given as goal

abbrev pub invariant-loop-w : goal.invariant-loop-w
invariant-loop-w l = (length l.out ≡ length l.initial.out) × Going l.initial.out l.at (weeks_of l.cells l.weeks) l.out l.next (repeated (week l.cells) 7 (l.w * 7) (l.weeks - l.w))

use Prim.Native.Nat.{◌+◌, ◌-◌}
use mathlib.Core.Path.{◌≡◌}
use lib.ListN.{length}
use Rattle.wall.specs.Columns.{repeated}
use Rattle.wall.specs.Lists.{line_of}
use Rattle.wall.proofs.Going.{Going}
use Rattle.wall.proofs.lists.put_festival_lines.Given as goal

abbrev pub invariant-loop-f : goal.invariant-loop-f
invariant-loop-f l = (length l.out ≡ length l.initial.out) × Going l.initial.out l.at (repeated (line_of l.names l.cells l.festivals l.i) 1 l.from l.n) l.out l.next (repeated (line_of l.names l.cells l.festivals l.i) 1 l.f (l.from + l.n - l.f))

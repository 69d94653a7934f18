use Prim.Native.Nat.{◌-◌}
use mathlib.Core.Path.{◌≡◌}
use lib.ListN.{length}
use Rattle.wall.specs.Columns.{repeated}
use Rattle.wall.specs.Lists.{festivals_on, festivals_of}
use Rattle.wall.proofs.Going.{Going}
use Rattle.wall.proofs.lists.put_festivals.Given as goal

abbrev pub invariant-loop-i : goal.invariant-loop-i
invariant-loop-i l = (length l.out ≡ length l.initial.out) × Going l.initial.out l.at (festivals_of l.names l.cells l.festivals l.n) l.out l.next (repeated (festivals_on l.names l.cells l.festivals) 1 l.i (l.n - l.i))

use Prim.Native.Nat.{◌+◌, ◌-◌}
use mathlib.Core.Path.{◌≡◌}
use mathlib.Core.List.{◌++◌}
use lib.ListN.{length}
use Rattle.text.specs.Quoted.{bytes}
use Rattle.wall.specs.Columns.{repeated}
use Rattle.wall.specs.Cells.{barred, row}
use Rattle.wall.proofs.Going.{Going}
use Rattle.wall.proofs.cells.put_row.Given as goal

abbrev pub invariant-loop-j : goal.invariant-loop-j
invariant-loop-j l = (length l.out ≡ length l.initial.out) × Going l.initial.out l.at (row l.k l.cells l.i) l.out l.next (repeated (barred l.k l.cells) 1 l.j (l.i + 7 - l.j) ++ bytes "|\n")

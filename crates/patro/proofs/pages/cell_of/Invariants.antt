use Prim.Native.Nat.{◌-◌}
use mathlib.Core.Path.{◌≡◌}
use Rattle.wall.specs.Places.{place_from}
use Rattle.patro.specs.Pages.{cell_day, cell_of}
use Rattle.patro.proofs.pages.cell_of.Given as goal

abbrev pub invariant-loop-i : goal.invariant-loop-i
invariant-loop-i l = place_from (cell_day l.cells) l.day l.i (42 - l.i) ≡ cell_of l.day l.cells

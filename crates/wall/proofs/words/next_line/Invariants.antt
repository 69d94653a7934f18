use mathlib.Core.Path.{◌≡◌}
use lib.ListN.{drop}
use Rattle.wall.specs.Words.{next_line}
use Rattle.wall.proofs.words.next_line.Given as goal

abbrev pub invariant-loop-i : goal.invariant-loop-i
invariant-loop-i l = next_line (drop l.i l.s) ≡ next_line (drop l.from l.s)

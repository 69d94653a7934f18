use mathlib.Core.Path.{◌≡◌}
use lib.ListN.{drop}
use Rattle.asked.specs.Line.{letters}
use Rattle.asked.proofs.words.read_tag.Given as goal

abbrev pub invariant-loop-i : goal.invariant-loop-i
invariant-loop-i l = letters l.v (drop l.i l.s) ≡ letters 0 l.s

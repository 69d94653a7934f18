use mathlib.Core.Path.{◌≡◌}
use Prim.Native.Nat.{◌-◌}
use lib.ListN.{drop}
use Rattle.wall.specs.Words.{line_from}
use Rattle.wall.proofs.words.line_from.Given as goal

abbrev pub invariant-loop-done : goal.invariant-loop-done
invariant-loop-done l = line_from (l.k - l._done) (drop l.at l.s) ≡ line_from l.k l.s

use Prim.Native.Nat.{◌+◌, ◌-◌, ◌*◌}
use mathlib.Core.Path.{◌≡◌}
use lib.ListN.{drop, replicate}
use lib.Seq.{sets}
use Rattle.shelf.specs.Inner.{wholes}
use Rattle.shelf.proofs.days_at.Given as goal

abbrev pub invariant-loop-i : goal.invariant-loop-i
invariant-loop-i l = sets l.days l.i (wholes (64 - l.i) (drop (l.at + l.i * 2) l.numbers)) ≡ sets (replicate 64 0) 0 (wholes 64 (drop l.at l.numbers))

use Prim.Native.Nat.{◌*◌, ◌≤◌}
use mathlib.Core.Path.{◌≡◌}
use Rattle.wall.specs.Lists.{before}
use Rattle.wall.proofs.lists.before.Given as goal

abbrev pub invariant-loop-k : goal.invariant-loop-k
invariant-loop-k l = (l.sum ≡ before l.cells l.k) × (l.sum ≤ 65535 * l.k)

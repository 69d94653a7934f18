use Prim.Native.Nat.{◌-◌}
use mathlib.Core.Path.{◌≡◌}
use Rattle.gate.specs.Inner.{marked_from}
use Rattle.gate.proofs.reasons.first_marked.Given as goal

abbrev pub invariant-loop-i : goal.invariant-loop-i
invariant-loop-i l = marked_from l.list l.i (l.count - l.i) ≡ marked_from l.list 0 (l.count - 0)

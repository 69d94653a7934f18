-- The number so far leaves room for the digits that are left, and these are still to be read.
use Prim.Native.Nat.{suc, ◌+◌, ◌-◌, ◌*◌, ◌^◌, ◌≤◌}
use mathlib.Core.Path.{◌≡◌}
use lib.ListN.{drop}
use Rattle.text.specs.Digits.{fixed}
use Rattle.text.proofs.reading.read_fixed.Given as goal

abbrev pub invariant-loop-b : goal.invariant-loop-b
invariant-loop-b l = (suc l.v * l.base ^ (l.k - l.b-index) ≤ 2 ^ 64) × (fixed l.base (l.k - l.b-index) l.v (drop (l.from + l.b-index) l.s) ≡ fixed l.base l.k 0 (drop l.from l.s))

use Prim.Native.Nat.{ℕ, ◌*◌, ◌≤◌}
use mathlib.Core.Path.{◌≡◌}
use mathlib.Core.Bool.{cond}
use lib.Dec.{ltb}
use Rattle.paper.specs.Sums.{sum}
use Rattle.conversion.specs.Inner.{column}
use Rattle.conversion.proofs.columns.months_span.Given as goal

-- the first count numbers, and 0 after them
abbrev pub first : (ℕ → ℕ) → ℕ → ℕ → ℕ
first f count k = cond (ltb k count) (f k) 0

abbrev pub invariant-loop-m : goal.invariant-loop-m
invariant-loop-m l = (l.total ≡ sum (first (column l.rows l.at 1) l.count) l.m) × (l.total ≤ 65535 * l.m)

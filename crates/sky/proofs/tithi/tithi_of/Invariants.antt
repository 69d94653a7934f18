use mathlib.Core.Path.{◌≡◌}
use Prim.Native.Nat.{◌+◌}
use Rattle.sky.specs.Tithi.{twelves}
use Rattle.sky.proofs.tithi.tithi_of.Given as goal

abbrev pub invariant-loop-k : goal.invariant-loop-k
invariant-loop-k l = l.n ≡ 1 + twelves l.x l.k

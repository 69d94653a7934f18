use mathlib.Core.Path.{◌≡◌}
use Prim.Native.Nat.{◌+◌}
use Rattle.festivals.specs.Kathmandu.{kala_number, kathmandu}
use Rattle.festivals.proofs.Claims.{Left}
use Rattle.festivals.proofs.days.first_by_kala.Given as goal

abbrev pub invariant-loop-n : goal.invariant-loop-n
invariant-loop-n l = (l.n-end ≡ l.begin + 3) × Left kathmandu l.start.0 l.end.0 (kala_number l.kala) l.begin l.n

use mathlib.Core.Path.{◌≡◌}
use Prim.Native.Nat.{◌+◌}
use Rattle.panchanga.specs.Answers.{span_is}
use Rattle.rules.specs.Days.{nishita}
use Rattle.festivals.specs.Kathmandu.{sun_on, kathmandu}
use Rattle.festivals.proofs.Claims.{Left}
use Rattle.festivals.proofs.days.first_by_night.Given as goal

abbrev pub invariant-loop-n : goal.invariant-loop-n
invariant-loop-n l = (l.n-end ≡ l.begin + 3) × (span_is l.today ≡ sun_on l.n) × Left kathmandu l.start.0 l.end.0 nishita l.begin l.n

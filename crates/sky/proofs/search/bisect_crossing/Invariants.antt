use mathlib.Core.Path.{◌≡◌}
use Prim.Native.Nat.{◌-◌}
use Rattle.sky.specs.Tithi.{elongation_of}
use Rattle.sky.specs.Search.{offset, halved}
use Rattle.sky.proofs.search.bisect_crossing.Given as goal

abbrev pub invariant-loop-done : goal.invariant-loop-done
invariant-loop-done l = halved (offset elongation_of l.target) 30 l.from l.to ≡ halved (offset elongation_of l.target) (30 - l._done) l.a l.b

use Prim.Native.Nat.{◌-◌}
use Rattle.sky.specs.Tithi.{elongation_of}
use Rattle.sky.specs.Search.{offset}
use Rattle.sky.proofs.Steps.{Sought}
use Rattle.sky.proofs.search.next_start.Given as goal

abbrev pub invariant-loop-done : goal.invariant-loop-done
invariant-loop-done l = Sought (offset elongation_of l.target) l.end l.steps l.from l.lo l.f_lo (l.steps - l.done)

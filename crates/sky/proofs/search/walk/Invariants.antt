use Prim.Native.Nat.{◌+◌}
use lib.ListN.{length}
use Rattle.sky.specs.Tithi.{elongation_of}
use Rattle.sky.specs.Search.{offset}
use Rattle.sky.specs.Inner.{came}
use Rattle.sky.proofs.Steps.{All}
use Rattle.sky.proofs.search.walk.Given as goal

abbrev pub invariant-loop-next : goal.invariant-loop-next
invariant-loop-next l = All (offset elongation_of l.target) l.end l.begin l.initial.found l.found l.count l.next

abbrev pub decreases-loop-next : goal.decreases-loop-next
decreases-loop-next l = length (came l.next) + l.next.left

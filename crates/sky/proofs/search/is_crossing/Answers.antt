use lib.Ieee.{of_bits}
use Rattle.paper.specs.Floats.{near}
use Rattle.sky.specs.Search.{crosses}
use Rattle.sky.proofs.search.is_crossing.Goals as goal

pub returns-then-a : goal.returns-then-a
unfolding crosses near of_bits
returns-then-a c = simp c.if-a.true

pub returns-else-a : goal.returns-else-a
unfolding crosses near of_bits
returns-else-a c = simp c.if-a.false

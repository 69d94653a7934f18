use lib.Ieee.{of_bits}
use Rattle.paper.specs.Floats.{near}
use Rattle.sky.specs.Search.{step_end}
use Rattle.sky.proofs.search.step_end.Goals as goal

pub returns-then-to-next : goal.returns-then-to-next
unfolding step_end near of_bits
returns-then-to-next c = simp c.if-to-next.true

pub returns-else-to-next : goal.returns-else-to-next
unfolding step_end near of_bits
returns-else-to-next c = simp c.if-to-next.false

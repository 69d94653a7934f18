use lib.Ieee.{of_bits}
use Rattle.paper.specs.Floats.{near}
use Rattle.sky.specs.Time.{tt_day}
use Rattle.sky.proofs.time.is_tt_day.Goals as goal

pub returns-then-x : goal.returns-then-x
unfolding tt_day near of_bits
returns-then-x c = simp c.if-x.true

pub returns-else-x : goal.returns-else-x
unfolding tt_day near of_bits
returns-else-x c = simp c.if-x.false

use lib.Ieee.{of_bits}
use Rattle.paper.specs.Floats.{near}
use Rattle.sky.specs.Time.{tt_of, year_of}
use Rattle.sky.proofs.time.tt_of.Goals as goal

pub returns : goal.returns
unfolding tt_of year_of near of_bits
returns c = rw c.delta_t.ensures

use lib.Ieee.{of_bits}
use Rattle.paper.specs.Floats.{near}
use Rattle.panchanga.specs.Clock.{minutes_of}
use Rattle.panchanga.proofs.clock.minutes_of.Goals as goal

pub returns : goal.returns
unfolding minutes_of near of_bits
returns c = rw c.rounded.ensures

-- `festivals::days::sun_on` meets its contract: the code's place is the definition's. Assumes nothing.
use lib.Ieee.{of_bits}
use Rattle.paper.specs.Floats.{near}
use Rattle.festivals.proofs.days.sun_on.Goals as goal

pub returns : goal.returns
unfolding near of_bits
returns c = c.events_on.ensures

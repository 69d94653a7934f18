-- `notes::moons::minutes_to` meets its contract. Assumes nothing.
use lib.Ieee.{of_bits}
use Rattle.paper.specs.Floats.{near}
use Rattle.notes.specs.Near.{minutes_to}
use Rattle.notes.proofs.moons.minutes_to.Goals as goal

pub returns : goal.returns
unfolding minutes_to near of_bits
returns c = c.rounded.ensures

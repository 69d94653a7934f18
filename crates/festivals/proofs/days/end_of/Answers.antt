-- `festivals::days::end_of` meets its contract. Assumes nothing.
use lib.Ieee.{of_bits}
use Rattle.paper.specs.Floats.{near}
use Rattle.festivals.specs.Kathmandu.{end_after}
use Rattle.festivals.proofs.days.end_of.Goals as goal

pub returns : goal.returns
unfolding end_after near of_bits
returns c = rw (← c.next_tithi-next.ensures) c.first_start.ensures

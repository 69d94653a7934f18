-- `festivals::years::beginning_of` meets its contract. Assumes nothing.
use lib.Ieee.{of_bits}
use Rattle.paper.specs.Floats.{near}
use Rattle.festivals.specs.Kathmandu.{start_after}
use Rattle.festivals.proofs.Entries.{begins_at_moon, begins_after}
use Rattle.festivals.proofs.years.beginning_of.Goals as goal

pub returns-then-tithi-eq1 : goal.returns-then-tithi-eq1
returns-then-tithi-eq1 c = begins_at_moon _ _ _ c.if-tithi-eq1.true

pub returns : goal.returns
unfolding start_after near of_bits
returns c = begins_after _ _ _ _ c.if-tithi-eq1.false c.first_start.ensures

-- The code's place is the definition's. Assumes nothing.
use lib.Ieee.{of_bits}
use Rattle.paper.specs.Floats.{near}
use Rattle.grid.proofs.cells.reading_on.Goals as goal

pub returns : goal.returns
unfolding near of_bits
returns c = c.reading_of.ensures

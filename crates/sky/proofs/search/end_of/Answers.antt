use lib.Ieee.{of_bits}
use Rattle.paper.specs.Floats.{near}
use Rattle.sky.specs.Search.{end_of}
use Rattle.sky.proofs.search.end_of.Goals as goal

pub returns : goal.returns
unfolding end_of near of_bits
returns c = rw (c.first_start.ensures, c.next_tithi.ensures)

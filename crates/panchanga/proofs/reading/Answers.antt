use lib.Ieee.{of_bits}
use Rattle.paper.specs.Floats.{near}
use Rattle.panchanga.proofs.reading.Goals as goal

pub returns : goal.returns
unfolding near of_bits
returns c = rw (← c.day_number.ensures, c.in_ok-n.was, c.reading_of.ensures)

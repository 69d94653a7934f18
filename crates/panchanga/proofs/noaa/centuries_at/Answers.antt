use lib.Ieee.{of_bits}
use Rattle.paper.specs.Floats.{near}
use Rattle.panchanga.specs.Noaa.{centuries_at, noon_at}
use Rattle.panchanga.proofs.noaa.centuries_at.Goals as goal

pub returns : goal.returns
unfolding centuries_at noon_at near of_bits
returns c = rw (c.julian_centuries.ensures, c.tt_of.ensures)

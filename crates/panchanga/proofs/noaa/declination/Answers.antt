use lib.Ieee.{of_bits, div}
use Rattle.paper.specs.Floats.{near}
use Rattle.sky.specs.Angles.{deg}
use Rattle.panchanga.specs.Noaa.{declination}
use Rattle.panchanga.proofs.noaa.declination.Goals as goal

pub returns : goal.returns
unfolding declination deg near of_bits div
returns c = rw (c.arcsine.ensures, c.sine-2.ensures, c.sine.ensures, c.obliquity.ensures)

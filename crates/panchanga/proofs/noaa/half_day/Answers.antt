use lib.Ieee.{of_bits, div}
use Rattle.paper.specs.Floats.{near}
use Rattle.sky.specs.Angles.{deg}
use Rattle.panchanga.specs.Noaa.{half_day}
use Rattle.panchanga.proofs.noaa.half_day.Goals as goal

pub returns : goal.returns
unfolding half_day deg near of_bits div
returns c = rw c.arccosine.ensures

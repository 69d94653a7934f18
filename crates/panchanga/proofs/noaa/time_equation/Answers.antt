use lib.Ieee.{of_bits, div}
use Rattle.paper.specs.Floats.{near}
use Rattle.sky.specs.Angles.{deg}
use Rattle.panchanga.specs.Noaa.{time_equation}
use Rattle.panchanga.proofs.noaa.time_equation.Goals as goal

pub returns : goal.returns
unfolding time_equation deg near of_bits div
returns c = rw (c.sine-sine.ensures, c.sine.ensures, c.cosine.ensures, c.sine-2.ensures, c.sine-3.ensures)

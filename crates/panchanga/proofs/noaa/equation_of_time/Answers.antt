use lib.Ieee.{of_bits, div}
use Rattle.paper.specs.Floats.{near}
use Rattle.sky.specs.Angles.{deg}
use Rattle.panchanga.specs.Noaa.{equation_of_time}
use Rattle.panchanga.proofs.noaa.equation_of_time.Goals as goal

pub returns : goal.returns
unfolding equation_of_time deg near of_bits div
returns c = rw (c.time_equation.ensures, c.eccentricity.ensures, c.tangent-half.ensures, c.obliquity.ensures)

use lib.Ieee.{of_bits, div}
use Rattle.paper.specs.Floats.{near}
use Rattle.sky.specs.Angles.{deg}
use Rattle.panchanga.specs.Noaa.{cos_hour_angle}
use Rattle.panchanga.proofs.noaa.cos_hour_angle.Goals as goal

pub returns : goal.returns
unfolding cos_hour_angle deg near of_bits div
returns c = rw (c.cosine.ensures, c.cosine-2.ensures, c.cosine-3.ensures, c.tangent.ensures, c.tangent-2.ensures)

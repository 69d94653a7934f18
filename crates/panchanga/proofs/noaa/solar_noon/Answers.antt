use Rattle.std.proofs.Common.{refl}
use lib.Ieee.{of_bits}
use Rattle.paper.specs.Floats.{near}
use Rattle.panchanga.specs.Noaa.{solar_noon}
use Rattle.panchanga.proofs.noaa.solar_noon.Goals as goal

pub returns : goal.returns
unfolding solar_noon near of_bits
returns c = refl

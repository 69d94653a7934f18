use Rattle.std.proofs.Common.{refl}
use lib.Ieee.{of_bits}
use Rattle.paper.specs.Floats.{near}
use Rattle.panchanga.specs.Noaa.{eccentricity}
use Rattle.panchanga.proofs.noaa.eccentricity.Goals as goal

pub returns : goal.returns
unfolding eccentricity near of_bits
returns c = refl

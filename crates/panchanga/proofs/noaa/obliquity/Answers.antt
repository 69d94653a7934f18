use Rattle.std.proofs.Common.{refl}
use lib.Ieee.{of_bits}
use Rattle.paper.specs.Floats.{near}
use Rattle.panchanga.specs.Noaa.{obliquity}
use Rattle.panchanga.proofs.noaa.obliquity.Goals as goal

pub returns : goal.returns
unfolding obliquity near of_bits
returns c = refl

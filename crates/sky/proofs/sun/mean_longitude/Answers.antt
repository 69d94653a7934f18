use mathlib.Core.Path.{refl}
use Rattle.paper.specs.Floats.{near}
use lib.Ieee.{of_bits}
use Rattle.sky.specs.Sun.{mean_longitude}
use Rattle.sky.proofs.sun.mean_longitude.Goals as goal

pub returns : goal.returns
unfolding mean_longitude near of_bits
returns c = refl

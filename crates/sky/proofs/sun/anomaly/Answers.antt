use mathlib.Core.Path.{refl}
use Rattle.paper.specs.Floats.{near}
use lib.Ieee.{of_bits}
use Rattle.sky.specs.Sun.{anomaly}
use Rattle.sky.proofs.sun.anomaly.Goals as goal

pub returns : goal.returns
unfolding anomaly near of_bits
returns c = refl

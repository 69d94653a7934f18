use mathlib.Core.Path.{refl}
use Rattle.paper.specs.Floats.{near}
use lib.Ieee.{of_bits}
use Rattle.sky.specs.Time.{julian_centuries}
use Rattle.sky.proofs.time.julian_centuries.Goals as goal

pub returns : goal.returns
unfolding julian_centuries near of_bits
returns c = refl

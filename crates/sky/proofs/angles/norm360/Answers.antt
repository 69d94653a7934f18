use lib.Ieee.{of_bits, of_int}
use Rattle.paper.specs.Floats.{near}
use Rattle.sky.specs.Angles.{rem_euclid, norm360}
use Rattle.sky.proofs.angles.norm360.Goals as goal

pub returns : goal.returns
unfolding rem_euclid norm360 near of_bits of_int
returns c = c.rem_euclid.ensures

use lib.Ieee.{of_bits, of_int}
use Rattle.paper.specs.Floats.{near}
use Rattle.sky.specs.Angles.{rem_euclid}
use Rattle.panchanga.specs.Clock.{fraction}
use Rattle.panchanga.proofs.clock.fraction.Goals as goal

pub returns : goal.returns
unfolding rem_euclid fraction near of_bits of_int
returns c = c.rem_euclid.ensures

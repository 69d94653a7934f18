use Rattle.std.proofs.Common.{refl}
use lib.Ieee.{of_bits}
use Rattle.paper.specs.Floats.{near}
use Rattle.gregorian.specs.Instants.{zero_of}
use Rattle.gregorian.proofs.zero_hour.Goals as goal

pub returns : goal.returns
unfolding zero_of near of_bits
returns c = refl

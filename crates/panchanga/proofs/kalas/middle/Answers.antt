use Rattle.std.proofs.Common.{refl}
use lib.Ieee.{of_bits}
use Rattle.paper.specs.Floats.{near}
use Rattle.panchanga.specs.Kalas.{middle}
use Rattle.panchanga.proofs.kalas.middle.Goals as goal

pub returns : goal.returns
unfolding middle near of_bits
returns c = refl

use Rattle.std.proofs.Common.{refl}
use lib.Ieee.{of_bits, of_int}
use Rattle.paper.specs.Floats.{near}
use Rattle.panchanga.specs.Kalas.{muhurta}
use Rattle.panchanga.proofs.kalas.muhurta.Goals as goal

pub returns : goal.returns
unfolding muhurta near of_bits of_int
returns c = refl

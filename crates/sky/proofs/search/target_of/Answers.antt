use mathlib.Core.Path.{refl}
use lib.Ieee.{of_bits}
use Rattle.paper.specs.Floats.{near}
use Rattle.sky.specs.Search.{target_of}
use Rattle.sky.proofs.search.target_of.Goals as goal

pub returns : goal.returns
unfolding target_of near of_bits
returns c = refl

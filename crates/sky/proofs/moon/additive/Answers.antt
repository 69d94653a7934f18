use lib.Ieee.{of_bits, div}
use Rattle.paper.specs.Floats.{near}
use Rattle.sky.specs.Angles.{deg}
use Rattle.sky.specs.Moon.{venus, jupiter, additive}
use Rattle.sky.proofs.moon.additive.Goals as goal

pub returns : goal.returns
unfolding additive venus jupiter deg near of_bits div
returns c = simp (c.sine.ensures, c.sine-2.ensures, c.sine-3.ensures)

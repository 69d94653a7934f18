use lib.Ieee.{of_bits, div}
use Rattle.paper.specs.Floats.{near}
use Rattle.sky.specs.Angles.{deg}
use Rattle.sky.specs.Sun.{center}
use Rattle.sky.proofs.sun.center.Goals as goal

pub returns : goal.returns
unfolding center deg near of_bits div
returns c = rw (c.sine.ensures, c.sine-2.ensures, c.sine-3.ensures)

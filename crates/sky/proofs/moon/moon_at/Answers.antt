use lib.Ieee.{of_bits}
use Rattle.paper.specs.Floats.{near}
use Rattle.sky.specs.Moon.{moon_longitude}
use Rattle.sky.proofs.moon.moon_at.Goals as goal

pub returns : goal.returns
unfolding moon_longitude near of_bits
returns c =
    simp (c.norm360.ensures, c.additive.ensures, c.moon_sum.ensures, c.moon_args-a.ensures)

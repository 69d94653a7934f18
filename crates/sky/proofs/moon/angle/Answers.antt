-- `sky::moon::angle` meets its contract. Assumes nothing.
use native.Mathlib.Omega.{arith}
use lib.Ieee.{of_bits, div}
use Rattle.paper.specs.Floats.{near}
use Rattle.sky.specs.Angles.{deg}
use Rattle.sky.proofs.Series.{angle_is}
use Rattle.sky.proofs.moon.angle.Goals as goal

pub returns : goal.returns
unfolding deg near of_bits div
returns c =
    angle_is c.args.a c.args.x (record { sfits = omega arith }) (record { sfits = omega arith }) (record { sfits = omega arith }) (record { sfits = omega arith })
    c.as_float.ensures c.as_float-2.ensures c.as_float-3.ensures c.as_float-4.ensures

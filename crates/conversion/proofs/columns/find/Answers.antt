use native.Mathlib.Omega.{arith}
use Rattle.conversion.specs.Inner.{column}
use Rattle.paper.proofs.Sums.{sum_zero, sum_step}
use Rattle.conversion.proofs.columns.find.Goals as goal

pub loop-i-init : goal.loop-i-init
loop-i-init c = let a = c.args in omega (arith, sum_zero (column a.rows.now a.at a.step))

pub loop-i-preserved : goal.loop-i-preserved
loop-i-preserved c =
    let a = c.args in
    omega (arith, sum_step (column a.rows.now a.at a.step) c.loop-i.i)

use Rattle.sky.proofs.Scaling.{doubling}
use Rattle.sky.proofs.division.doubled.Goals as goal

pub loop-done-preserved : goal.loop-done-preserved
loop-done-preserved c = doubling c.args.digits c.loop-done._done c.args.n c.loop-done.left c.loop-done.invariant

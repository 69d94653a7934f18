-- `trig::magnitude` meets its contract. Assumes nothing.
use Rattle.trig.proofs.Signs.{largest_is}
use Rattle.trig.proofs.magnitude.Goals as goal

pub returns : goal.returns
returns c = cc (largest_is c.args.x)

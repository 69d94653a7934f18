use Rattle.gregorian.proofs.Instants.{local_bits}
use Rattle.gregorian.proofs.local_day.Goals as goal

pub returns : goal.returns
returns c = local_bits c.args.x

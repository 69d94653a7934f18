use Rattle.gregorian.proofs.Julian.{years_closed}
use Rattle.gregorian.proofs.year_start.Goals as goal

pub returns : goal.returns
returns c = years_closed c.args.n c.requires

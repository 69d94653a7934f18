-- `wall::names::put_number` meets its contract. Assumes nothing.
use Rattle.text.proofs.Writes.{then}
use Rattle.wall.specs.Names.{numbered}
use Rattle.wall.proofs.names.put_number.Goals as goal

pub returns : goal.returns
unfolding numbered
returns c = then c.put-a.ensures c.put_decimal.ensures

-- `growth::put_first_to_last` meets its contract. Assumes nothing.
use Rattle.growth.specs.Growth.{days_pieces}
use Rattle.output.proofs.Pieces.{then}
use Rattle.growth.proofs.put_first_to_last.Goals as goal

pub returns : goal.returns
unfolding days_pieces
returns c = then c.put_text-a.ensures (then c.put_date-b.ensures (then c.put_text-c.ensures c.put_date.ensures))

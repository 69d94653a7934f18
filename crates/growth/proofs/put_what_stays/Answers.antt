-- `growth::put_what_stays` meets its contract. Assumes nothing.
use Rattle.growth.specs.Growth.{same_pieces}
use Rattle.output.proofs.Pieces.{then}
use Rattle.growth.proofs.put_what_stays.Goals as goal

pub returns : goal.returns
unfolding same_pieces
returns c = then c.put_text-a.ensures (then c.put_text-b.ensures c.put_text.ensures)

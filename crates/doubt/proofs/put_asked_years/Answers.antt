-- `doubt::put_asked_years` meets its contract. Assumes nothing.
use Rattle.output.proofs.Pieces.{then}
use Rattle.doubt.specs.Range.{range_pieces}
use Rattle.doubt.proofs.put_asked_years.Goals as goal

pub returns : goal.returns
unfolding range_pieces
returns c = then c.put_labelled-a.ensures (then c.put_labelled-b.ensures c.put_text.ensures)

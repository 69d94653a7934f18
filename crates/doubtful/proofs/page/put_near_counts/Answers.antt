-- `doubtful::page::put_near_counts` meets its contract. Assumes nothing.
use Rattle.doubtful.specs.Tallies.{near_pieces}
use Rattle.output.proofs.Pieces.{then}
use Rattle.doubtful.proofs.page.put_near_counts.Goals as goal

pub returns : goal.returns
unfolding near_pieces
returns c = then c.put_number-a.ensures (then c.put_labelled-b.ensures c.put_text.ensures)

-- `doubtful::page::put_counts` meets its contract. Assumes nothing.
use Rattle.doubtful.specs.Tallies.{count_pieces}
use Rattle.output.proofs.Pieces.{then}
use Rattle.doubtful.proofs.page.put_counts.Goals as goal

pub returns : goal.returns
unfolding count_pieces
returns c = then c.put_near_counts-a.ensures (then c.put_labelled-b.ensures (then c.put_labelled-c.ensures c.put_text.ensures))

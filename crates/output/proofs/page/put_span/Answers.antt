-- `output::page::put_span` meets its contract. Assumes nothing.
use Rattle.output.specs.Pieces.{span_pieces}
use Rattle.output.proofs.Pieces.{then}
use Rattle.output.proofs.page.put_span.Goals as goal

pub returns : goal.returns
unfolding span_pieces
returns c = then c.put_number-a.ensures (then c.put_digits-b.ensures c.put_text.ensures)

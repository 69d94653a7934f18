-- `notes::lines::put_where` meets its contract. Assumes nothing.
use Rattle.notes.specs.Lines.{where_pieces}
use Rattle.output.proofs.Pieces.{then}
use Rattle.notes.proofs.lines.put_where.Goals as goal

pub returns : goal.returns
unfolding where_pieces
returns c = then c.put_text-a.ensures (then c.put_span-b.ensures (then c.put_either-c.ensures c.put_year_month.ensures))

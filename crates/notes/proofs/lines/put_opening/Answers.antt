-- `notes::lines::put_opening` meets its contract. Assumes nothing.
use Rattle.notes.specs.Lines.{opening_pieces}
use Rattle.output.proofs.Pieces.{then}
use Rattle.notes.proofs.lines.put_opening.Goals as goal

pub returns-then-opens : goal.returns-then-opens
unfolding opening_pieces
returns-then-opens c = rw c.if-opens.true (then c.put_labelled-a.ensures c.put_text.ensures)

pub returns : goal.returns
unfolding opening_pieces
returns c = rw c.if-opens.false (then c.put_text-a.ensures (then c.put_year_month-b.ensures c.put_text-2.ensures))

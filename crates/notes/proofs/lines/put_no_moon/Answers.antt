-- `notes::lines::put_no_moon` meets its contract. Assumes nothing.
use Rattle.notes.specs.Lines.{none_pieces}
use Rattle.output.proofs.Pieces.{then}
use Rattle.notes.proofs.lines.put_no_moon.Goals as goal

pub returns : goal.returns
unfolding none_pieces
returns c = then c.put_text-a.ensures (then c.put_year_month-b.ensures (then c.put_labelled-c.ensures c.put_text.ensures))

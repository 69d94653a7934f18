-- `growth::put_years_line` meets its contract. Assumes nothing.
use Rattle.growth.specs.Growth.{line_pieces}
use Rattle.output.proofs.Pieces.{then}
use Rattle.growth.proofs.put_years_line.Goals as goal

pub returns : goal.returns
unfolding line_pieces
returns c = then c.put_labelled-a.ensures (then c.put_labelled-b.ensures (then c.put_first_to_last-c.ensures c.put_text.ensures))

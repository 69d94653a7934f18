-- `notes::lines::put_rule_line` meets its contract. Assumes nothing.
use Rattle.notes.specs.Lines.{rule_pieces}
use Rattle.output.proofs.Pieces.{then}
use Rattle.notes.proofs.lines.put_rule_line.Goals as goal

pub returns : goal.returns
unfolding rule_pieces
returns c = then c.put_labelled-a.ensures (then c.put_text-b.ensures c.put_rule_name.ensures)

-- `notes::lines::put_month_rules` meets its contract. Assumes nothing.
use Rattle.notes.specs.Lines.{rules_pieces}
use Rattle.output.proofs.Pieces.{then}
use Rattle.notes.proofs.lines.put_month_rules.Goals as goal

pub returns : goal.returns
unfolding rules_pieces
returns c = then c.put_labelled-a.ensures (then c.put_text-b.ensures c.put_rule_lines.ensures)

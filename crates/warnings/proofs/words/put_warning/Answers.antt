-- `warnings::words::put_warning` meets its contract. Assumes nothing.
use Rattle.text.proofs.Writes.{then}
use Rattle.warnings.specs.Words.{warning_text}
use Rattle.warnings.proofs.words.put_warning.Goals as goal

pub returns : goal.returns
unfolding warning_text
returns c = rw (← c.line_in.ensures, ← c.line_of.ensures) (then c.put-a.ensures (then c.put_line-b.ensures (then c.put_rule_lines-c.ensures (then c.put_what-d.ensures c.put.ensures))))

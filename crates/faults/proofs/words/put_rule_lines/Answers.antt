-- `faults::words::put_rule_lines` meets its contract. Assumes nothing.
use Rattle.text.proofs.Writes.{then}
use Rattle.faults.specs.Words.{lines_text}
use Rattle.faults.proofs.words.put_rule_lines.Goals as goal

pub returns : goal.returns
unfolding lines_text
returns c =
    rw (← c.line_of.ensures, ← c.line_of-2.ensures)
    (then c.put_number-a.ensures (then c.put-b.ensures (then c.put_decimal-c.ensures (then c.put-d.ensures
    (then c.put_decimal-e.ensures c.put.ensures)))))

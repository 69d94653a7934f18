-- `faults::words::put_line` meets its contract. Assumes nothing.
use Rattle.text.proofs.Writes.{then}
use Rattle.faults.specs.Words.{line_text}
use Rattle.faults.proofs.words.put_line.Goals as goal

pub returns : goal.returns
unfolding line_text
returns c = then c.put-a.ensures (then c.put_at-b.ensures c.put.ensures)

-- `faults::lines::put_line_fault` meets its contract. Assumes nothing.
use Rattle.text.proofs.Writes.{then}
use Rattle.faults.specs.Lines.{line_fault_text}
use Rattle.faults.proofs.lines.put_line_fault.Goals as goal

pub returns : goal.returns
unfolding line_fault_text
returns c = rw (← c.reason_of.ensures) (then c.put-a.ensures (then c.put_key-b.ensures (then c.put-c.ensures (rw c.words.ensures at c.put.ensures))))

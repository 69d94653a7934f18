-- `faults::words::put_field_fault` meets its contract. Assumes nothing.
use Rattle.text.proofs.Writes.{then}
use Rattle.faults.specs.Words.{field_text}
use Rattle.faults.proofs.words.put_field_fault.Goals as goal

pub returns : goal.returns
unfolding field_text
returns c = rw (← c.number_in.ensures, ← c.least.ensures, ← c.most.ensures) (then c.put_rule_name-a.ensures (then (rw c.name.ensures at c.put-b.ensures) (then c.put-c.ensures (then c.put_decimal-d.ensures (then c.put-e.ensures c.put_range.ensures)))))

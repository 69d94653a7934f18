-- `faults::words::put_many_fault` meets its contract. Assumes nothing.
use Rattle.text.proofs.Writes.{then}
use Rattle.faults.specs.Words.{many_text}
use Rattle.faults.proofs.words.put_many_fault.Goals as goal

pub returns : goal.returns
unfolding many_text
returns c = then c.put_rule_lines-a.ensures (then c.put-b.ensures (then c.put_decimal-c.ensures c.put.ensures))

-- `tables::words::put_sum_fault` meets its contract. Assumes nothing.
use Rattle.text.proofs.Writes.{then}
use Rattle.tables.specs.Words.{sum_text}
use Rattle.tables.proofs.words.put_sum_fault.Goals as goal

pub returns : goal.returns
unfolding sum_text
returns c = then c.put-a.ensures (then c.put_decimal-b.ensures c.put.ensures)

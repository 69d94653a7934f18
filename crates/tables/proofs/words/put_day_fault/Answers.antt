-- `tables::words::put_day_fault` meets its contract. Assumes nothing.
use Rattle.text.proofs.Writes.{then}
use Rattle.tables.specs.Words.{day_text}
use Rattle.tables.proofs.words.put_day_fault.Goals as goal

pub returns : goal.returns
unfolding day_text
returns c = then c.put-a.ensures (then c.put_first_day-b.ensures c.put.ensures)

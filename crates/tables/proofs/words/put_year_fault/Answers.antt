-- `tables::words::put_year_fault` meets its contract. Assumes nothing.
use Rattle.text.proofs.Writes.{then}
use Rattle.tables.specs.Words.{year_text}
use Rattle.tables.proofs.words.put_year_fault.Goals as goal

pub returns : goal.returns
unfolding year_text
returns c = then c.put-a.ensures (then c.put_decimal-b.ensures c.put.ensures)

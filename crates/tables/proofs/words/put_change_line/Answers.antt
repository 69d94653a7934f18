-- `tables::words::put_change_line` meets its contract. Assumes nothing.
use Rattle.text.proofs.Writes.{then}
use Rattle.tables.specs.Words.{change_text}
use Rattle.tables.proofs.words.put_change_line.Goals as goal

pub returns : goal.returns
unfolding change_text
returns c = then c.put-a.ensures (then c.put_row_name-b.ensures c.put.ensures)

-- `tables::words::put_exchanged_line` meets its contract. Assumes nothing.
use Rattle.text.proofs.Writes.{then}
use Rattle.tables.specs.Words.{exchanged_text}
use Rattle.tables.proofs.words.put_exchanged_line.Goals as goal

pub returns : goal.returns
unfolding exchanged_text
returns c = then c.put_rows_shared-a.ensures (then c.put-b.ensures (then c.put-c.ensures (then c.put-d.ensures (then c.put-e.ensures c.put.ensures))))

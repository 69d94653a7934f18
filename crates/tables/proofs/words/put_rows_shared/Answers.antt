-- `tables::words::put_rows_shared` meets its contract. Assumes nothing.
use Rattle.text.proofs.Writes.{then}
use Rattle.tables.specs.Words.{rows_text}
use Rattle.tables.proofs.words.put_rows_shared.Goals as goal

pub returns : goal.returns
unfolding rows_text
returns c = then c.put-a.ensures (then c.put_decimal-b.ensures (then c.put-c.ensures (then c.put_decimal-d.ensures c.put.ensures)))

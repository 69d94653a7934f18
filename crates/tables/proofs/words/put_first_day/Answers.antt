-- `tables::words::put_first_day` meets its contract. Assumes nothing.
use Rattle.text.proofs.Writes.{then}
use Rattle.tables.specs.Words.{first_day_text}
use Rattle.tables.proofs.words.put_first_day.Goals as goal

pub returns : goal.returns
unfolding first_day_text
returns c = then c.put_decimal-a.ensures (then c.put-b.ensures (then c.put_decimal-c.ensures (then c.put-d.ensures c.put_decimal.ensures)))

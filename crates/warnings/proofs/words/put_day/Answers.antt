-- `warnings::words::put_day` meets its contract. Assumes nothing.
use Rattle.text.proofs.Writes.{then}
use Rattle.warnings.specs.Words.{day_text}
use Rattle.warnings.proofs.words.put_day.Goals as goal

pub returns : goal.returns
unfolding day_text
returns c = then c.put_date-a.ensures (then c.put_labelled-b.ensures c.put.ensures)

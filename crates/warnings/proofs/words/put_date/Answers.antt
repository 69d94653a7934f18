-- `warnings::words::put_date` meets its contract. Assumes nothing.
use Rattle.text.proofs.Writes.{then}
use Rattle.warnings.specs.Words.{date_text}
use Rattle.warnings.proofs.words.put_date.Goals as goal

pub returns : goal.returns
unfolding date_text
returns c = then c.put_labelled-a.ensures (then c.put_labelled-b.ensures c.put_labelled.ensures)

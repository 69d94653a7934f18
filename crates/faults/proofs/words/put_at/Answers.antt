-- `faults::words::put_at` meets its contract. Assumes nothing.
use Rattle.text.proofs.Writes.{then}
use Rattle.faults.specs.Words.{at_text}
use Rattle.faults.proofs.words.put_at.Goals as goal

pub returns : goal.returns
unfolding at_text
returns c = then c.put-a.ensures c.put_decimal.ensures

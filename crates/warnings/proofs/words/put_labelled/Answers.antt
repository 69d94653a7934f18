-- `warnings::words::put_labelled` meets its contract. Assumes nothing.
use Rattle.text.proofs.Writes.{then}
use Rattle.warnings.specs.Words.{labelled}
use Rattle.warnings.proofs.words.put_labelled.Goals as goal

pub returns : goal.returns
unfolding labelled
returns c = then c.put-a.ensures c.put_decimal.ensures

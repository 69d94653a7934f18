-- `warnings::words::put_name` meets its contract. Assumes nothing.
use Rattle.text.proofs.Writes.{then}
use Rattle.warnings.specs.Words.{name_text}
use Rattle.warnings.proofs.words.put_name.Goals as goal

pub returns : goal.returns
unfolding name_text
returns c = then c.put_labelled-a.ensures c.put.ensures

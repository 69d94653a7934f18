-- `faults::words::put_number` meets its contract. Assumes nothing.
use Rattle.text.proofs.Writes.{then}
use Rattle.faults.specs.Words.{number_text}
use Rattle.faults.proofs.words.put_number.Goals as goal

pub returns : goal.returns
unfolding number_text
returns c = rw (← c.wrapping_add_u64.ensures.value) (then c.put-a.ensures c.put_decimal.ensures)

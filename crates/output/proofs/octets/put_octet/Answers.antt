-- The last two of sixteen digits. Assumes nothing.
use Rattle.text.specs.Digits.{run}
use Rattle.output.proofs.octets.put_octet.Goals as goal

pub returns : goal.returns
unfolding run
returns c = rw c.put_hex.ensures.stored at c.put.ensures

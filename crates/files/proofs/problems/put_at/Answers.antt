-- `files::problems::put_at` meets its contract. Assumes nothing.
use Rattle.text.proofs.Writes.{then}
use Rattle.files.specs.Problems.{at_line}
use Rattle.files.proofs.problems.put_at.Goals as goal

pub returns : goal.returns
unfolding at_line
returns c = then c.put-a.ensures (then c.put_decimal-b.ensures (then c.put-c.ensures (rw c.words.ensures at c.put.ensures)))

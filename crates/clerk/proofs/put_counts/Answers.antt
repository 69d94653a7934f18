-- `clerk::put_counts` meets its contract. Assumes nothing.
use Rattle.text.proofs.Writes.{then}
use Rattle.clerk.specs.Counts.{counts_text}
use Rattle.clerk.proofs.put_counts.Goals as goal

pub returns : goal.returns
unfolding counts_text
returns c = then c.put_count-a.ensures (then c.put_count-b.ensures (then c.put_count-c.ensures c.put_count.ensures))

-- `clerk::put_count` meets its contract. Assumes nothing.
use Rattle.text.proofs.Writes.{then}
use Rattle.clerk.specs.Counts.{count_text}
use Rattle.clerk.proofs.put_count.Goals as goal

pub returns : goal.returns
unfolding count_text
returns c = rw (← c.count_kind.ensures) (then c.put-a.ensures (then c.put_decimal-b.ensures c.put.ensures))

-- `convert::reply::put_shown` meets its contract. Assumes nothing.
use Rattle.text.proofs.Writes.{then}
use Rattle.convert.proofs.reply.put_shown.Goals as goal

pub returns-in-Some : goal.returns-in-Some
returns-in-Some c = rw c.in-Some.is (then c.put_number-a.ensures (then c.put_next-b.ensures c.put_next.ensures))

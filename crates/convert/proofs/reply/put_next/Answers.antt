-- `convert::reply::put_next` meets its contract. Assumes nothing.
use Rattle.text.proofs.Writes.{then}
use Rattle.convert.proofs.reply.put_next.Goals as goal

pub returns : goal.returns
returns c = then c.put-a.ensures c.put_number.ensures

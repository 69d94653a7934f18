-- `convert::reply::put_reply` meets its contract. Assumes nothing.
use Rattle.text.proofs.Writes.{then}
use Rattle.convert.proofs.reply.put_reply.Goals as goal

pub returns : goal.returns
returns c =
    then c.put_dates-a.ensures
    (then c.put-b.ensures
    (then c.put_decimal-c.ensures
    (then c.put-d.ensures
    (then c.put_outside-e.ensures c.put.ensures))))

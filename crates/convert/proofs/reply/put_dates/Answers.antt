-- `convert::reply::put_dates` meets its contract. Assumes nothing.
use Rattle.text.proofs.Writes.{then}
use Rattle.convert.proofs.reply.put_dates.Goals as goal

pub returns : goal.returns
returns c =
    then c.put-a.ensures (then c.put_shown-b.ensures (then c.put-c.ensures c.put_shown.ensures))

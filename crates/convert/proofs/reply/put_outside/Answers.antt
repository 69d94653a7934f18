-- `convert::reply::put_outside` meets its contract. Assumes nothing.
use Rattle.text.proofs.Writes.{then}
use Rattle.convert.proofs.reply.put_outside.Goals as goal

pub returns-in-Before : goal.returns-in-Before
returns-in-Before c =
    rw (c.in-Some.is, c.in-Before.is) (then c.put-a.ensures c.put_decimal.ensures)

-- `convert::reply::put_number` meets its contract. Assumes nothing.
use Rattle.convert.proofs.Puts.{fewest_put, wide_put}
use Rattle.convert.proofs.reply.put_number.Goals as goal

pub returns-then-width-eq0 : goal.returns-then-width-eq0
returns-then-width-eq0 c = let a = c.args in fewest_put a.width a.n c.if-width-eq0.true c.put_decimal.ensures

pub returns : goal.returns
returns c = let a = c.args in wide_put a.width a.n c.if-width-eq0.false c.put_wide.ensures

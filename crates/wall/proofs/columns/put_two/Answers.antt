-- `wall::columns::put_two` meets its contract. Assumes nothing.
use borrow.Author.Tests.{lt-ltb, le-ltb}
use Rattle.text.proofs.Writes.{then}
use Rattle.wall.specs.Columns.{two}
use Rattle.wall.proofs.columns.put_two.Goals as goal

pub returns-then-n-lt10 : goal.returns-then-n-lt10
unfolding two
returns-then-n-lt10 c = rw (lt-ltb c.args.n 10 c.if-n-lt10.true) (then c.put-a.ensures c.put_wide.ensures)

pub returns : goal.returns
unfolding two
returns c = rw (le-ltb c.args.n 10 c.if-n-lt10.false) c.put_wide-2.ensures

-- `wall::columns::put_clock` meets its contract. Assumes nothing.
use borrow.Author.Tests.{lt-ltb, le-ltb}
use Rattle.text.proofs.Writes.{then}
use Rattle.wall.specs.Columns.{clock}
use Rattle.wall.proofs.columns.put_clock.Goals as goal

pub returns-then-minute-lt1440 : goal.returns-then-minute-lt1440
unfolding clock
returns-then-minute-lt1440 c = rw (lt-ltb c.args.minute 1440 c.if-minute-lt1440.true) (then c.put_wide-a.ensures (then c.put-b.ensures c.put_wide.ensures))

pub returns : goal.returns
unfolding clock
returns c = rw (le-ltb c.args.minute 1440 c.if-minute-lt1440.false) c.put.ensures

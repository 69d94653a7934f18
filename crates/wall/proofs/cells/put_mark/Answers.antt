-- `wall::cells::put_mark` meets its contract. Assumes nothing.
use borrow.Author.Tests.{eq-eqb, ne_eqb}
use Rattle.wall.specs.Cells.{marked}
use Rattle.wall.proofs.cells.put_mark.Goals as goal

pub returns-then-n-eq0 : goal.returns-then-n-eq0
unfolding marked
returns-then-n-eq0 c = rw (eq-eqb c.args.n 0 c.if-n-eq0.true) c.put.ensures

pub returns : goal.returns
unfolding marked
returns c = rw (ne_eqb c.args.n 0 c.if-n-eq0.false) c.put-2.ensures

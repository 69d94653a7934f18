-- `wall::cells::put_piece` meets its contract. Assumes nothing.
use borrow.Author.Tests.{eq-eqb, ne_eqb}
use Rattle.wall.specs.Cells.{piece}
use Rattle.wall.proofs.cells.put_piece.Goals as goal

pub returns-then-number-eq0 : goal.returns-then-number-eq0
unfolding piece
returns-then-number-eq0 c = rw (← c.number.ensures, eq-eqb c.number.result 0 c.if-number-eq0.true) c.put.ensures

pub returns-then-k-eq0 : goal.returns-then-k-eq0
unfolding piece
returns-then-k-eq0 c = rw (← c.number.ensures, ne_eqb c.number.result 0 c.if-number-eq0.false, eq-eqb c.args.k 0 c.if-k-eq0.true) c.put_day_line.ensures

pub returns-then-k-eq1 : goal.returns-then-k-eq1
unfolding piece
returns-then-k-eq1 c = rw (← c.number.ensures, ne_eqb c.number.result 0 c.if-number-eq0.false, ne_eqb c.args.k 0 c.if-k-eq0.false, eq-eqb c.args.k 1 c.if-k-eq1.true) c.put_tithi_line.ensures

pub returns-then-k-eq2 : goal.returns-then-k-eq2
unfolding piece
returns-then-k-eq2 c = rw (← c.number.ensures, ne_eqb c.number.result 0 c.if-number-eq0.false, ne_eqb c.args.k 0 c.if-k-eq0.false, ne_eqb c.args.k 1 c.if-k-eq1.false, eq-eqb c.args.k 2 c.if-k-eq2.true, ← c.number-then-k-eq2.ensures) c.put_sun_line.ensures

pub returns : goal.returns
unfolding piece
returns c = rw (← c.number.ensures, ne_eqb c.number.result 0 c.if-number-eq0.false, ne_eqb c.args.k 0 c.if-k-eq0.false, ne_eqb c.args.k 1 c.if-k-eq1.false, ne_eqb c.args.k 2 c.if-k-eq2.false, ← c.number-2.ensures) c.put_sun_line-2.ensures

-- `wall::cells::put_week` meets its contract. Assumes nothing.
use Rattle.text.proofs.Writes.{then}
use Rattle.wall.specs.Cells.{week}
use Rattle.wall.proofs.cells.put_week.Goals as goal

pub returns : goal.returns
unfolding week
returns c = then c.put_row-a.ensures (then c.put_row-b.ensures (then c.put_row-c.ensures (then c.put_row-d.ensures c.put_border.ensures)))

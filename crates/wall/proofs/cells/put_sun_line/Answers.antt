-- `wall::cells::put_sun_line` meets its contract. Assumes nothing.
use Rattle.text.proofs.Writes.{then}
use Rattle.wall.specs.Cells.{sun_line}
use Rattle.wall.proofs.cells.put_sun_line.Goals as goal

pub returns : goal.returns
unfolding sun_line
returns c = then c.put-a.ensures c.put_clock.ensures

-- `wall::cells::put_border` meets its contract. Assumes nothing.
use Rattle.wall.specs.Columns.{repeated}
use Rattle.wall.specs.Cells.{border}
use Rattle.wall.proofs.cells.put_border.Goals as goal

pub returns : goal.returns
unfolding border repeated
returns c = c.put.ensures

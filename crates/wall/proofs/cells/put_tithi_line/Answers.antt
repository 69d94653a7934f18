-- `wall::cells::put_tithi_line` meets its contract. Assumes nothing.
use Rattle.text.proofs.Writes.{then}
use Rattle.wall.specs.Cells.{tithi_line}
use Rattle.wall.proofs.cells.put_tithi_line.Goals as goal

pub returns : goal.returns
unfolding tithi_line
returns c = rw (← c.number.ensures, ← c.number-2.ensures) (then c.put-a.ensures (then c.put_two-b.ensures c.put_mark.ensures))

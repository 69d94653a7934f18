-- `wall::cells::put_day_line` meets its contract. Assumes nothing.
use Rattle.text.proofs.Writes.{then}
use Rattle.wall.specs.Cells.{day_line}
use Rattle.wall.proofs.cells.put_day_line.Goals as goal

pub returns : goal.returns
unfolding day_line
returns c = rw (← c.number.ensures, ← c.number-2.ensures, ← c.number-3.ensures, ← c.number-4.ensures) (then c.put_two-a.ensures (then c.put_mark-b.ensures c.put_short_date.ensures))

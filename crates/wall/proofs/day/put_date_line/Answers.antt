-- `wall::day::put_date_line` meets its contract. Assumes nothing.
use Rattle.text.proofs.Writes.{then}
use Rattle.wall.specs.Pages.{date_line}
use Rattle.wall.proofs.day.put_date_line.Goals as goal

pub returns : goal.returns
unfolding date_line
returns c = rw (← c.number-year.ensures, ← c.number-month.ensures, ← c.number.ensures) (then c.put_full_date-a.ensures c.put.ensures)

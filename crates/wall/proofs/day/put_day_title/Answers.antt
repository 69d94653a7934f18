-- `wall::day::put_day_title` meets its contract. Assumes nothing.
use Rattle.text.proofs.Writes.{then}
use Rattle.wall.specs.Pages.{day_title}
use Rattle.wall.proofs.day.put_day_title.Goals as goal

pub returns : goal.returns
unfolding day_title
returns c = rw (← c.number.ensures, ← c.number-2.ensures) (then c.put_weekday-a.ensures (then c.put-b.ensures (then c.put_decimal-c.ensures (then c.put-d.ensures (then c.put_month_and_year-e.ensures c.put.ensures)))))

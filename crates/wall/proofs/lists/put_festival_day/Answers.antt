-- `wall::lists::put_festival_day` meets its contract. Assumes nothing.
use Rattle.text.proofs.Writes.{then}
use Rattle.wall.specs.Lists.{day_of}
use Rattle.wall.proofs.lists.put_festival_day.Goals as goal

pub returns : goal.returns
unfolding day_of
returns c = rw (← c.number.ensures, ← c.number-2.ensures, ← c.number-3.ensures, ← c.number-4.ensures) (then c.put_two-a.ensures (then c.put-b.ensures (then c.put_weekday-c.ensures (then c.put-d.ensures (then c.put_short_date-e.ensures c.put.ensures)))))

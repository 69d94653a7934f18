-- `wall::columns::put_short_date` meets its contract. Assumes nothing.
use Rattle.text.proofs.Writes.{then}
use Rattle.wall.specs.Columns.{short_date}
use Rattle.wall.proofs.columns.put_short_date.Goals as goal

pub returns : goal.returns
unfolding short_date
returns c = then c.put_gregorian_month-a.ensures (then c.put-b.ensures c.put_two.ensures)

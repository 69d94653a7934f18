-- `wall::columns::put_full_date` meets its contract. Assumes nothing.
use Rattle.text.proofs.Writes.{then}
use Rattle.wall.specs.Columns.{full_date}
use Rattle.wall.proofs.columns.put_full_date.Goals as goal

pub returns : goal.returns
unfolding full_date
returns c = then c.put_decimal-a.ensures (then c.put-b.ensures (then c.put_gregorian_month-c.ensures (then c.put-d.ensures c.put_decimal.ensures)))

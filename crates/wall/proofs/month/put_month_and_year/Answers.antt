-- `wall::month::put_month_and_year` meets its contract. Assumes nothing.
use Rattle.text.proofs.Writes.{then}
use Rattle.wall.specs.Pages.{bs_month}
use Rattle.wall.proofs.month.put_month_and_year.Goals as goal

pub returns : goal.returns
unfolding bs_month
returns c = then c.put_bs_month-a.ensures (then c.put-b.ensures c.put_decimal.ensures)

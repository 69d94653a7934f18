-- `wall::month::put_title` meets its contract. Assumes nothing.
use Rattle.text.proofs.Writes.{then}
use Rattle.wall.specs.Pages.{title}
use Rattle.wall.proofs.month.put_title.Goals as goal

pub returns : goal.returns
unfolding title
returns c = then c.put_month_and_year-a.ensures (then c.put-b.ensures (then c.put_full_date-c.ensures (then c.put-d.ensures (then c.put_full_date-e.ensures c.put.ensures))))

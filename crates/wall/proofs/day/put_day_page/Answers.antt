-- `wall::day::put_day_page` meets its contract. Assumes nothing.
use Rattle.text.proofs.Writes.{then}
use Rattle.wall.specs.Pages.{day_page}
use Rattle.wall.proofs.day.put_day_page.Goals as goal

pub returns : goal.returns
unfolding day_page
returns c = then c.put_day_title-a.ensures (then c.put_date_line-b.ensures (then c.put_reading-c.ensures (then c.put_holiday-d.ensures c.put_festivals_on.ensures)))

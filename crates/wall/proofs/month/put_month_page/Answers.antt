-- `wall::month::put_month_page` meets its contract. Assumes nothing.
use Rattle.text.proofs.Writes.{then}
use Rattle.wall.specs.Pages.{month_page}
use Rattle.wall.proofs.month.put_month_page.Goals as goal

pub returns : goal.returns
unfolding month_page
returns c = then c.put_title-a.ensures (then c.put_heads-b.ensures (then c.put_weeks-c.ensures (then c.put_legend-d.ensures c.put_festivals.ensures)))

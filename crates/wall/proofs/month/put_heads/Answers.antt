-- `wall::month::put_heads` meets its contract. Assumes nothing.
use Rattle.text.proofs.Writes.{then}
use Rattle.wall.specs.Columns.{repeated}
use Rattle.wall.specs.Words.{word, weekdays}
use Rattle.wall.specs.Pages.{heads}
use Rattle.wall.proofs.month.put_heads.Goals as goal

pub returns : goal.returns
unfolding heads word weekdays repeated
returns c = then c.put_border-a.ensures (then c.put-b.ensures c.put_border.ensures)

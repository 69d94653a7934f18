-- `wall::day::put_sun` meets its contract. Assumes nothing.
use Rattle.text.proofs.Writes.{then}
use Rattle.wall.specs.Pages.{sun_text}
use Rattle.wall.proofs.day.put_sun.Goals as goal

pub returns : goal.returns
unfolding sun_text
returns c = then c.put-a.ensures (then c.put_clock-b.ensures (then c.put-c.ensures (then c.put_clock-d.ensures c.put.ensures)))

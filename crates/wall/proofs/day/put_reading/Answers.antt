-- `wall::day::put_reading` meets its contract. Assumes nothing.
use Rattle.text.proofs.Writes.{then}
use Rattle.wall.specs.Pages.{reading_text}
use Rattle.wall.proofs.day.put_reading.Goals as goal

pub returns : goal.returns
unfolding reading_text
returns c = rw (← c.number.ensures, ← c.number-2.ensures, ← c.number-3.ensures, ← c.number-4.ensures) (then c.put_tithi-a.ensures (then c.put_end-b.ensures c.put_sun.ensures))

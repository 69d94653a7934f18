-- `wall::lists::put_festival` meets its contract. Assumes nothing.
use Rattle.text.proofs.Writes.{then}
use Rattle.wall.specs.Lists.{festival_text}
use Rattle.wall.proofs.lists.put_festival.Goals as goal

pub returns : goal.returns
unfolding festival_text
returns c = rw (← c.get.ensures, ← c.get-2.ensures) (then c.put_festival_name-a.ensures c.put_mark.ensures)

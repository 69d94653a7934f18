-- `wall::lists::put_festivals_on` meets its contract. Assumes nothing.
use Rattle.wall.specs.Lists.{festivals_on}
use Rattle.wall.proofs.lists.put_festivals_on.Goals as goal

pub returns : goal.returns
unfolding festivals_on
returns c = rw (← c.before-f.ensures.0, ← c.number.ensures) c.put_festival_lines.ensures

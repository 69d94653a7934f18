-- `naming::checking::marked` meets its contract. Assumes nothing.
use Rattle.naming.specs.Names.{marked}
use Rattle.naming.proofs.checking.marked.Goals as goal

pub returns : goal.returns
unfolding marked
returns c = rw (c.stands.ensures, c.stands-2.ensures, c.stands-3.ensures)

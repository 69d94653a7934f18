-- `fields::row::ends` meets its contract. Assumes nothing.
use Rattle.fields.specs.Line as Line
use Rattle.fields.proofs.row.ends.Goals as goal

pub returns : goal.returns
unfolding Line.ends
returns c = rw (c.at_end.ensures, c.stands.ensures)

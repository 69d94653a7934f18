-- `fields::row::word_ends` meets its contract. Assumes nothing.
use Rattle.fields.specs.Line as Line
use Rattle.fields.proofs.row.word_ends.Goals as goal

pub returns : goal.returns
unfolding Line.word_ends
returns c = rw (c.ends.ensures, c.stands.ensures)

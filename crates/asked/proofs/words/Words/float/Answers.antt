-- `asked::words::Words::float` meets its contract. Assumes nothing.
use Rattle.asked.proofs.words.Words.float.Goals as goal

pub returns : goal.returns
returns c = rw (c.float_of.ensures, c.value.ensures)

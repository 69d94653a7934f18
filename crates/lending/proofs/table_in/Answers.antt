-- The line's first four numbers. Assumes nothing.
use Rattle.lending.proofs.table_in.Goals as goal

pub returns : goal.returns
returns c = rw (c.small.ensures, c.small-2.ensures, c.small-3.ensures, c.small-4.ensures)

-- `asked::input::told` meets its contract. Assumes nothing.
use Rattle.asked.proofs.input.told.Goals as goal

pub returns-then-more : goal.returns-then-more
returns-then-more c = rw c.if-more.true

pub returns : goal.returns
returns c = rw (c.if-more.false, c.flush.ensures.0, c.flush.ensures.1)

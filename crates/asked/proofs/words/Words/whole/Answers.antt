-- `asked::words::Words::whole` meets its contract. Assumes nothing.
use Rattle.asked.proofs.words.Words.whole.Goals as goal

pub returns-then-minus : goal.returns-then-minus
returns-then-minus c = rw (c.if-minus.true, ← c.value-v.ensures) c.below.ensures

pub returns : goal.returns
returns c = rw (c.if-minus.false, ← c.value-v.ensures) c.above.ensures

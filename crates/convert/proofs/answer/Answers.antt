-- `convert::answer` meets its contract. Assumes nothing.
use Rattle.convert.proofs.Puts.{replied}
use Rattle.convert.proofs.answer.Goals as goal

pub returns : goal.returns
returns c = let a = c.args in
    replied a.o a.s.now c.room-ready.ensures.at_value.0 c.put_line.ensures

-- `rulefile::writing::due_length` meets its contract: no line is longer than the buffer it is written in. Assumes nothing.
use Rattle.std.proofs.Common.{arith}
use Rattle.rulefile.proofs.Dues.{due_short}
use Rattle.rulefile.proofs.writing.due_length.Goals as goal

pub returns : goal.returns
returns c =
    let w = rw c.key.ensures at c.put_line.ensures in
    omega (arith, w.end, due_short c.args.i c.args.n (omega (arith, c.ranges.n)))

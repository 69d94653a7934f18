-- What was held, with the piece that it was open over, is the line of one piece more.
use Rattle.std.proofs.Common.{arith, ◌∙◌}
use Rattle.lines.proofs.Pieces.{reads_more}
use Rattle.lines.proofs.read_on.Goals as goal

pub loop-left-preserved : goal.loop-left-preserved
loop-left-preserved g c =
    let l = c.loop-left in
    let f = rw c.in-Open.is at c.fill_on.ensures in
    (c.fill_on.auto.line ∙ l.invariant.0, omega arith, reads_more l.invariant.2 l.invariant.0 f)

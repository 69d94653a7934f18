-- `faults::lines::end_byte` meets its contract: the last byte is still to come. Assumes nothing.
use Rattle.std.proofs.Common.{sym, ◌∙◌}
use Rattle.faults.proofs.Reasons.{end_over, end-here, end-turn}
use Rattle.faults.proofs.lines.end_byte.Goals as goal

pub returns-then-b-eq10 : goal.returns-then-b-eq10
returns-then-b-eq10 c =
    let l = c.loop-b in
    sym (end-here c.args.s.now l.last l.b-index c.loop-b-test.true c.if-b-eq10.true) ∙ l.invariant

pub loop-b-preserved : goal.loop-b-preserved
loop-b-preserved c =
    let l = c.loop-b in
    sym (end-turn c.args.s.now l.last l.b-index c.loop-b-test.true c.if-b-eq10.false) ∙ l.invariant

pub returns : goal.returns
returns c = let l = c.loop-b in sym (end_over c.args.s.now l.last l.b-index c.loop-b-test.false) ∙ l.invariant

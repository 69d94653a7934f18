-- The turn of a line, or the end, with all written out. Assumes nothing.
use Rattle.asked.proofs.Turns.{turn_failed, turn_over, turn_line}
use Rattle.asked.proofs.input.turn_of.Goals as goal

pub returns-then-o : goal.returns-then-o
returns-then-o c = let a = c.args in
    let x = c.finish in
    turn_failed a.input a.o x.result c.if-o.true x.ensures.0 x.ensures.1 c.ended.ensures

pub returns-then-input-eq0 : goal.returns-then-input-eq0
returns-then-input-eq0 c = let a = c.args in
    let x = c.finish-then-input-eq0 in
    turn_over a.input a.o x.result c.if-o.false c.if-input-eq0.true x.ensures.0 x.ensures.1 c.ended-then-input-eq0.ensures

pub returns : goal.returns
returns c = let a = c.args in
    turn_line a.input a.o a.o.failed c.if-o.false c.if-input-eq0.false

-- `wall::words::next_line` meets its contract: the next line is the same from the place reached. Assumes nothing.
use Prim.Native.Nat.{◌-◌}
use mathlib.Core.Path.{refl, ◌∙◌}
use Rattle.wall.proofs.Parts.{next_over, next_found, next_turn}
use Rattle.wall.proofs.words.next_line.Goals as goal

pub loop-i-init : goal.loop-i-init
loop-i-init c = refl

pub returns-then-s-i-eq10 : goal.returns-then-s-i-eq10
returns-then-s-i-eq10 c = let l = c.loop-i in next_found c.args.s.now l.i c.loop-i-test.true c.if-s-i-eq10.true ∙ l.invariant

pub loop-i-preserved : goal.loop-i-preserved
loop-i-preserved c = let l = c.loop-i in next_turn c.args.s.now l.i c.loop-i-test.true c.if-s-i-eq10.false ∙ l.invariant

pub returns : goal.returns
returns c = let l = c.loop-i in next_over c.args.s.now l.i c.loop-i-test.false ∙ l.invariant

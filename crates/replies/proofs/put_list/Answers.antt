-- `replies::put_list` meets its contract: the words so far, and those to come. Assumes nothing.
use Rattle.output.proofs.Gathering.{then, left_all, left_turn, left_none}
use native.Mathlib.Omega.{arith}
use Rattle.replies.proofs.put_list.Goals as goal

pub loop-x-init : goal.loop-x-init
loop-x-init g c = left_all

pub loop-x-preserved : goal.loop-x-preserved
loop-x-preserved g c = left_turn c.x-item.result c.loop-x.invariant c.loop-x-test.true (rw c.x-item.is at c.put-p.ensures)

pub returns : goal.returns
returns g c = then c.word-p.ensures (left_none c.loop-x.invariant (omega arith))

-- `text::writing::put` meets its contract: what is left of the text is to be stored at the place reached. Assumes nothing.
use mathlib.Core.Path.{sym, ◌∙◌}
use native.Mathlib.Omega.{arith}
use lib.ListN.{drop, length-set}
use Rattle.paper.proofs.Stores.{sets_past}
use Rattle.text.proofs.Texts.{over}
use Rattle.text.proofs.Turns.{put_turn}
use Rattle.text.proofs.writing.put.Goals as goal

pub returns-then-out-next : goal.returns-then-out-next
returns-then-out-next c = let l = c.loop-i in
    record { stored = sym (sets_past (drop l.i c.args.src.now) l.out l.next c.if-out-next.true) ∙ l.invariant.3; end = omega arith }

pub loop-i-preserved : goal.loop-i-preserved
loop-i-preserved c = let l = c.loop-i in (
  omega arith,
  omega arith,
  simp length-set l.invariant.2,
  put_turn l.out c.args.src.now l.next l.i (omega arith) ∙ l.invariant.3,
)

pub returns : goal.returns
returns c = let l = c.loop-i in
    record { stored = rw (over c.args.src.now l.i (omega arith)) at l.invariant.3; end = omega arith }

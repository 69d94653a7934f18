-- `utf8::controls::control` meets its contract. Assumes nothing.
use Rattle.utf8.specs.Controls.{control}
use Rattle.utf8.proofs.controls.control.Goals as goal

pub returns-then-feed-b : goal.returns-then-feed-b
unfolding control
returns-then-feed-b c = rw c.if-feed-b.true

pub returns : goal.returns
unfolding control
returns c = rw c.if-feed-b.false
